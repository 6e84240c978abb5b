-- What the words of a command line were read as.
use Rattle.std.specs.Prelude.{List, Option}
use Rattle.std.specs.Option.{option_map}
use Rattle.command_table.specs.Table.{Listing, content, past, head_ids, log, replay, numbers, question, marks, caret, blame, Command, create, edit, show, merge, upgrade, undo, make, net, Line, does, serves, watches, exports}
use Rattle.command_reader.specs.declared.words as words
use Rattle.command_reader.specs.declared.words.Listing.TheVariants as shown
use Rattle.command_reader.specs.declared.words.Line.TheVariants as line
use Rattle.command_reader.specs.declared.words.Taken.{Taken}
use Rattle.command_reader.specs.declared.words.Taken.TheVariants as taken

-- what is shown
abbrev pub listing_view : words.Listing.Listing → Listing
listing_view shown.Content = content
listing_view (shown.Past version) = past version.items
listing_view shown.Heads = head_ids
listing_view shown.Log = log
listing_view shown.Replay = replay
listing_view shown.Numbers = numbers
listing_view shown.Question = question
listing_view shown.Marks = marks
listing_view (shown.Caret version index) = caret version.items index
listing_view (shown.Blame version columns) = blame (option_map (λ ids. ids.items) version) columns

-- the command that the words were read as
abbrev pub command_view : Taken → Command
command_view (taken.New name) = create name.now
command_view (taken.Edit name agent) = edit name.now agent
command_view (taken.Show listing name) = show (listing_view listing) name.now
command_view (taken.Merge name other) = merge name.now other.now
command_view (taken.Upgrade name) = upgrade name.now
command_view (taken.Undo name agent first count) = undo name.now agent first count
command_view (taken.Make seed count) = make seed count
command_view taken.Net = net

abbrev pub line_view : words.Line.Line → Line
line_view (line.Does command) = does (command_view command)
line_view (line.Serves name) = serves name.now
line_view (line.Watches agent) = watches agent
line_view (line.Exports name) = exports name.now
