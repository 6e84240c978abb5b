-- The words that lines of a net script begin with.
use Rattle.std.specs.Prelude.{ℕ, List, codes}
use Rattle.script_reader.specs.declared.net.verb.Verb.{Verb}
use Rattle.script_reader.specs.declared.net.verb.Verb.TheVariants as verb

-- the first word of a line with more words than one
abbrev pub verb_word : Verb → List ℕ
verb_word verb.Peer = codes "peer"
verb_word verb.Ins = codes "ins"
verb_word verb.Del = codes "del"
verb_word verb.Mark = codes "mark"
verb_word verb.Undo = codes "undo"
verb_word verb.Caret = codes "caret"
verb_word verb.Where = codes "where"
verb_word verb.Push = codes "push"
verb_word verb.Send = codes "send"
verb_word verb.Ask = codes "ask"
verb_word verb.Deliver = codes "deliver"
verb_word verb.Restart = codes "restart"
verb_word verb.Show = codes "show"
