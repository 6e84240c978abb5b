-- When words are taken.
use Rattle.std.proofs.Common.{◌≡◌, ◌⊎◌, inl, inr, codes, true, refl, sym, ◌∙◌, ap, List, [], ◌∷◌, Option, None, Some}
use Rattle.std.specs.Fmt.{digits}
use Rattle.clap.specs.Words.{Row, Kinds, IsAmong, fault_of, subcommand_of, is_simple, is_simple_and_free}
use Rattle.clap.specs.declared.error.kind.ErrorKind.{ErrorKind}
use Rattle.clap.specs.declared.error.kind.ErrorKind.TheVariants.{OutOfMemory}
use Rattle.clap.proofs.OnLiterals.{clap_on_literals}
use Rattle.command_table.specs.Table.{Text, content, past, log, replay, numbers, question, marks, caret, blame, Line, does, serves, watches, exports, edit, show, merge, upgrade, undo, make, net, line_in, where_none, line_of}
use Rattle.command_table.specs.Cli.{blame_app, caret_app, cat_app, edit_app, egw_app, make_app, merge_app, undo_app, watch_app}
use Rattle.command_table.specs.VersionWords.{version_in}

pub egw_is_simple : is_simple egw_app ≡ true
unfolding egw_app edit_app cat_app merge_app make_app watch_app undo_app caret_app blame_app clap_on_literals
egw_is_simple = refl

pub egw_is_free : is_simple_and_free egw_app ≡ true
unfolding egw_app edit_app cat_app merge_app make_app watch_app undo_app caret_app blame_app clap_on_literals
egw_is_free = refl

-- without a fault the line is that of the matches
pub taken : (words : List Text) (found : Option (Text × List Row)) → fault_of egw_app words ≡ [] → found ≡ subcommand_of egw_app words → line_in found ≡ line_of words
unfolding line_of
taken words found none is = ap line_in is ∙ ap (λ kinds. where_none kinds (line_in (subcommand_of egw_app words))) (sym none)

refused_by : (kinds : Kinds) (l : Option Line) (k : ErrorKind) → IsAmong k kinds → None ≡ where_none kinds l
refused_by [] l k among = absurd among
refused_by (x ∷ xs) l k among = refl

-- with a fault there is no line
pub refused : (words : List Text) (k : ErrorKind) → (k ≡ OutOfMemory → ⊥) → (k ≡ OutOfMemory) ⊎ IsAmong k (fault_of egw_app words) → None ≡ line_of words
unfolding line_of
refused words k other has = elim has [ inl memory ↦ absurd (other memory) | inr among ↦ refused_by (fault_of egw_app words) _ k among ]

-- worked lines
taken_file : line_of (codes "cat" ∷ codes "F" ∷ []) ≡ Some (does (show content (codes "F")))
unfolding line_of egw_app edit_app cat_app merge_app make_app watch_app undo_app caret_app blame_app clap_on_literals
taken_file = refl

a_past_text : line_of (codes "cat" ∷ codes "F" ∷ codes "--at" ∷ codes "a:2,b-1:0" ∷ []) ≡ Some (does (show (past (record { agent = codes "a"; seq = 2 } ∷ record { agent = codes "b-1"; seq = 0 } ∷ [])) (codes "F")))
unfolding line_of egw_app edit_app cat_app merge_app make_app watch_app undo_app caret_app blame_app clap_on_literals version_in digits
a_past_text = refl

nothing_yet : line_of (codes "cat" ∷ codes "--at=root" ∷ codes "F" ∷ []) ≡ Some (does (show (past []) (codes "F")))
unfolding line_of egw_app edit_app cat_app merge_app make_app watch_app undo_app caret_app blame_app clap_on_literals version_in digits
nothing_yet = refl

a_zero_in_front : line_of (codes "cat" ∷ codes "F" ∷ codes "--at" ∷ codes "a:01" ∷ []) ≡ None
unfolding line_of egw_app edit_app cat_app merge_app make_app watch_app undo_app caret_app blame_app clap_on_literals version_in digits
a_zero_in_front = refl

an_empty_version : line_of (codes "cat" ∷ codes "F" ∷ codes "--at=" ∷ []) ≡ None
unfolding line_of egw_app edit_app cat_app merge_app make_app watch_app undo_app caret_app blame_app clap_on_literals version_in digits
an_empty_version = refl

root_among_ids : line_of (codes "cat" ∷ codes "F" ∷ codes "--at" ∷ codes "root,a:0" ∷ []) ≡ None
unfolding line_of egw_app edit_app cat_app merge_app make_app watch_app undo_app caret_app blame_app clap_on_literals version_in digits
root_among_ids = refl

two_versions : line_of (codes "cat" ∷ codes "F" ∷ codes "--at" ∷ codes "a:0" ∷ codes "--at" ∷ codes "a:0" ∷ []) ≡ None
unfolding line_of egw_app edit_app cat_app merge_app make_app watch_app undo_app caret_app blame_app clap_on_literals version_in digits
two_versions = refl

a_replay : line_of (codes "replay" ∷ codes "F" ∷ []) ≡ Some (does (show replay (codes "F")))
unfolding line_of egw_app edit_app cat_app merge_app make_app watch_app undo_app caret_app blame_app clap_on_literals
a_replay = refl

no_help : line_of (codes "--help" ∷ []) ≡ None
unfolding line_of egw_app edit_app cat_app merge_app make_app watch_app undo_app caret_app blame_app clap_on_literals
no_help = refl

a_file_named_cat : line_of (codes "cat" ∷ codes "cat" ∷ []) ≡ Some (does (show content (codes "cat")))
unfolding line_of egw_app edit_app cat_app merge_app make_app watch_app undo_app caret_app blame_app clap_on_literals
a_file_named_cat = refl

no_words : line_of [] ≡ None
unfolding line_of egw_app edit_app cat_app merge_app make_app watch_app undo_app caret_app blame_app clap_on_literals
no_words = refl

without_file : line_of (codes "cat" ∷ []) ≡ None
unfolding line_of egw_app edit_app cat_app merge_app make_app watch_app undo_app caret_app blame_app clap_on_literals
without_file = refl

an_edit : line_of (codes "edit" ∷ codes "F" ∷ codes "--agent" ∷ codes "a" ∷ []) ≡ Some (does (edit (codes "F") (codes "a")))
unfolding line_of egw_app edit_app cat_app merge_app make_app watch_app undo_app caret_app blame_app clap_on_literals
an_edit = refl

no_agent : line_of (codes "edit" ∷ codes "F" ∷ []) ≡ None
unfolding line_of egw_app edit_app cat_app merge_app make_app watch_app undo_app caret_app blame_app clap_on_literals
no_agent = refl

an_agent_with_a_dash : line_of (codes "edit" ∷ codes "F" ∷ codes "--agent=-a" ∷ []) ≡ None
unfolding line_of egw_app edit_app cat_app merge_app make_app watch_app undo_app caret_app blame_app clap_on_literals
an_agent_with_a_dash = refl

a_log : line_of (codes "log" ∷ codes "F" ∷ []) ≡ Some (does (show log (codes "F")))
unfolding line_of egw_app edit_app cat_app merge_app make_app watch_app undo_app caret_app blame_app clap_on_literals
a_log = refl

a_check : line_of (codes "check" ∷ codes "F" ∷ []) ≡ Some (does (show numbers (codes "F")))
unfolding line_of egw_app edit_app cat_app merge_app make_app watch_app undo_app caret_app blame_app clap_on_literals
a_check = refl

a_check_of_two : line_of (codes "check" ∷ codes "F" ∷ codes "G" ∷ []) ≡ None
unfolding line_of egw_app edit_app cat_app merge_app make_app watch_app undo_app caret_app blame_app clap_on_literals
a_check_of_two = refl

two_files : line_of (codes "merge" ∷ codes "F" ∷ codes "G" ∷ []) ≡ Some (does (merge (codes "F") (codes "G")))
unfolding line_of egw_app edit_app cat_app merge_app make_app watch_app undo_app caret_app blame_app clap_on_literals
two_files = refl

a_question : line_of (codes "ask" ∷ codes "F" ∷ []) ≡ Some (does (show question (codes "F")))
unfolding line_of egw_app edit_app cat_app merge_app make_app watch_app undo_app caret_app blame_app clap_on_literals
a_question = refl

the_marks : line_of (codes "marks" ∷ codes "F" ∷ []) ≡ Some (does (show marks (codes "F")))
unfolding line_of egw_app edit_app cat_app merge_app make_app watch_app undo_app caret_app blame_app clap_on_literals
the_marks = refl

an_upgrade : line_of (codes "upgrade" ∷ codes "F" ∷ []) ≡ Some (does (upgrade (codes "F")))
unfolding line_of egw_app edit_app cat_app merge_app make_app watch_app undo_app caret_app blame_app clap_on_literals
an_upgrade = refl

an_upgrade_of_two : line_of (codes "upgrade" ∷ codes "F" ∷ codes "G" ∷ []) ≡ None
unfolding line_of egw_app edit_app cat_app merge_app make_app watch_app undo_app caret_app blame_app clap_on_literals
an_upgrade_of_two = refl

a_session : line_of (codes "serve" ∷ codes "F" ∷ []) ≡ Some (serves (codes "F"))
unfolding line_of egw_app edit_app cat_app merge_app make_app watch_app undo_app caret_app blame_app clap_on_literals
a_session = refl

a_merge_of_one : line_of (codes "merge" ∷ codes "F" ∷ []) ≡ None
unfolding line_of egw_app edit_app cat_app merge_app make_app watch_app undo_app caret_app blame_app clap_on_literals
a_merge_of_one = refl

a_making : line_of (codes "make" ∷ codes "--seed" ∷ codes "7" ∷ codes "--count" ∷ codes "20" ∷ []) ≡ Some (does (make 7 20))
unfolding line_of egw_app edit_app cat_app merge_app make_app watch_app undo_app caret_app blame_app clap_on_literals digits
a_making = refl

a_making_without_count : line_of (codes "make" ∷ codes "--seed" ∷ codes "7" ∷ []) ≡ None
unfolding line_of egw_app edit_app cat_app merge_app make_app watch_app undo_app caret_app blame_app clap_on_literals
a_making_without_count = refl

too_many_to_make : line_of (codes "make" ∷ codes "--seed=7" ∷ codes "--count=1000001" ∷ []) ≡ None
unfolding line_of egw_app edit_app cat_app merge_app make_app watch_app undo_app caret_app blame_app clap_on_literals digits
too_many_to_make = refl

a_making_of_nothing : line_of (codes "make" ∷ codes "--seed=7" ∷ codes "--count=-0" ∷ []) ≡ Some (does (make 7 0))
unfolding line_of egw_app edit_app cat_app merge_app make_app watch_app undo_app caret_app blame_app clap_on_literals digits
a_making_of_nothing = refl

a_seed_with_a_minus : line_of (codes "make" ∷ codes "--seed=-0" ∷ codes "--count=0" ∷ []) ≡ None
unfolding line_of egw_app edit_app cat_app merge_app make_app watch_app undo_app caret_app blame_app clap_on_literals digits
a_seed_with_a_minus = refl

a_making_of_a_file : line_of (codes "make" ∷ codes "F" ∷ codes "--seed=7" ∷ codes "--count=1" ∷ []) ≡ None
unfolding line_of egw_app edit_app cat_app merge_app make_app watch_app undo_app caret_app blame_app clap_on_literals
a_making_of_a_file = refl

a_net : line_of (codes "net" ∷ []) ≡ Some (does net)
unfolding line_of egw_app edit_app cat_app merge_app make_app watch_app undo_app caret_app blame_app clap_on_literals
a_net = refl

a_net_of_a_file : line_of (codes "net" ∷ codes "F" ∷ []) ≡ None
unfolding line_of egw_app edit_app cat_app merge_app make_app watch_app undo_app caret_app blame_app clap_on_literals
a_net_of_a_file = refl

a_watch : line_of (codes "watch" ∷ codes "--agent" ∷ codes "a" ∷ []) ≡ Some (watches (codes "a"))
unfolding line_of egw_app edit_app cat_app merge_app make_app watch_app undo_app caret_app blame_app clap_on_literals
a_watch = refl

a_watch_of_a_file : line_of (codes "watch" ∷ codes "F" ∷ codes "--agent" ∷ codes "a" ∷ []) ≡ None
unfolding line_of egw_app edit_app cat_app merge_app make_app watch_app undo_app caret_app blame_app clap_on_literals
a_watch_of_a_file = refl

a_watch_without_agent : line_of (codes "watch" ∷ []) ≡ None
unfolding line_of egw_app edit_app cat_app merge_app make_app watch_app undo_app caret_app blame_app clap_on_literals
a_watch_without_agent = refl

a_watch_of_a_dash : line_of (codes "watch" ∷ codes "--agent=-a" ∷ []) ≡ None
unfolding line_of egw_app edit_app cat_app merge_app make_app watch_app undo_app caret_app blame_app clap_on_literals
a_watch_of_a_dash = refl

an_export : line_of (codes "export" ∷ codes "F" ∷ []) ≡ Some (exports (codes "F"))
unfolding line_of egw_app edit_app cat_app merge_app make_app watch_app undo_app caret_app blame_app clap_on_literals
an_export = refl

an_export_of_none : line_of (codes "export" ∷ []) ≡ None
unfolding line_of egw_app edit_app cat_app merge_app make_app watch_app undo_app caret_app blame_app clap_on_literals
an_export_of_none = refl

an_undo : line_of (codes "undo" ∷ codes "F" ∷ codes "--agent" ∷ codes "b" ∷ codes "--of" ∷ codes "a:1" ∷ codes "--count" ∷ codes "2" ∷ []) ≡ Some (does (undo (codes "F") (codes "b") (record { agent = codes "a"; seq = 1 }) 2))
unfolding line_of egw_app edit_app cat_app merge_app make_app watch_app undo_app caret_app blame_app clap_on_literals version_in digits
an_undo = refl

an_undo_of_nothing : line_of (codes "undo" ∷ codes "F" ∷ codes "--agent" ∷ codes "b" ∷ codes "--of" ∷ codes "a:1" ∷ codes "--count" ∷ codes "0" ∷ []) ≡ None
unfolding line_of egw_app edit_app cat_app merge_app make_app watch_app undo_app caret_app blame_app clap_on_literals version_in digits
an_undo_of_nothing = refl

an_undo_of_two_ids : line_of (codes "undo" ∷ codes "F" ∷ codes "--agent" ∷ codes "b" ∷ codes "--of" ∷ codes "a:1,b:1" ∷ codes "--count" ∷ codes "2" ∷ []) ≡ None
unfolding line_of egw_app edit_app cat_app merge_app make_app watch_app undo_app caret_app blame_app clap_on_literals version_in digits
an_undo_of_two_ids = refl

an_undo_of_no_id : line_of (codes "undo" ∷ codes "F" ∷ codes "--agent" ∷ codes "b" ∷ codes "--of" ∷ codes "root" ∷ codes "--count" ∷ codes "2" ∷ []) ≡ None
unfolding line_of egw_app edit_app cat_app merge_app make_app watch_app undo_app caret_app blame_app clap_on_literals version_in digits
an_undo_of_no_id = refl

an_undo_of_too_many : line_of (codes "undo" ∷ codes "F" ∷ codes "--agent" ∷ codes "b" ∷ codes "--of" ∷ codes "a:1" ∷ codes "--count" ∷ codes "1000001" ∷ []) ≡ None
unfolding line_of egw_app edit_app cat_app merge_app make_app watch_app undo_app caret_app blame_app clap_on_literals version_in digits
an_undo_of_too_many = refl

an_undo_without_agent : line_of (codes "undo" ∷ codes "F" ∷ codes "--of" ∷ codes "a:1" ∷ codes "--count" ∷ codes "2" ∷ []) ≡ None
unfolding line_of egw_app edit_app cat_app merge_app make_app watch_app undo_app caret_app blame_app clap_on_literals version_in digits
an_undo_without_agent = refl

a_caret : line_of (codes "caret" ∷ codes "F" ∷ codes "--at" ∷ codes "a:1" ∷ codes "--index" ∷ codes "0" ∷ []) ≡ Some (does (show (caret ((record { agent = codes "a"; seq = 1 }) ∷ []) 0) (codes "F")))
unfolding line_of egw_app edit_app cat_app merge_app make_app watch_app undo_app caret_app blame_app clap_on_literals version_in digits
a_caret = refl

a_caret_of_no_version : line_of (codes "caret" ∷ codes "F" ∷ codes "--index" ∷ codes "0" ∷ []) ≡ None
unfolding line_of egw_app edit_app cat_app merge_app make_app watch_app undo_app caret_app blame_app clap_on_literals version_in digits
a_caret_of_no_version = refl

a_caret_before_the_text : line_of (codes "caret" ∷ codes "F" ∷ codes "--at" ∷ codes "a:1" ∷ codes "--index=-1" ∷ []) ≡ None
unfolding line_of egw_app edit_app cat_app merge_app make_app watch_app undo_app caret_app blame_app clap_on_literals version_in digits
a_caret_before_the_text = refl

a_blame : line_of (codes "blame" ∷ codes "F" ∷ codes "--columns" ∷ codes "80" ∷ []) ≡ Some (does (show (blame None 80) (codes "F")))
unfolding line_of egw_app edit_app cat_app merge_app make_app watch_app undo_app caret_app blame_app clap_on_literals version_in digits
a_blame = refl

a_blame_of_a_version : line_of (codes "blame" ∷ codes "F" ∷ codes "--columns=1000" ∷ codes "--at" ∷ codes "a:1" ∷ []) ≡ Some (does (show (blame (Some ((record { agent = codes "a"; seq = 1 }) ∷ [])) 1000) (codes "F")))
unfolding line_of egw_app edit_app cat_app merge_app make_app watch_app undo_app caret_app blame_app clap_on_literals version_in digits
a_blame_of_a_version = refl

a_blame_without_columns : line_of (codes "blame" ∷ codes "F" ∷ codes "--columns" ∷ codes "0" ∷ []) ≡ None
unfolding line_of egw_app edit_app cat_app merge_app make_app watch_app undo_app caret_app blame_app clap_on_literals version_in digits
a_blame_without_columns = refl

a_blame_of_too_many_columns : line_of (codes "blame" ∷ codes "F" ∷ codes "--columns" ∷ codes "1001" ∷ []) ≡ None
unfolding line_of egw_app edit_app cat_app merge_app make_app watch_app undo_app caret_app blame_app clap_on_literals version_in digits
a_blame_of_too_many_columns = refl
