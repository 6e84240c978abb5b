use Rattle.std.proofs.Common.{◌≡◌, ◌∙◌, ap}
use Rattle.std.proofs.lemmas.Result.{IfOk-weaker}
use Rattle.clap.specs.Words.{App}
use Rattle.command_table.specs.Cli.{bare_app, blame_app, caret_app, cat_app, edit_app, egw_app, file_commands, make_app, merge_app, net_app, then_app, undo_app, watch_app, with_file_apps}
use Rattle.command_reader.proofs.cli.egw_command.Goals as goal

-- the first parts, one after another
front : (a b c d e : App) → a ≡ with_file_apps bare_app file_commands → b ≡ then_app a edit_app → c ≡ then_app b cat_app → d ≡ then_app c merge_app → e ≡ then_app d net_app
    → e ≡ then_app (then_app (then_app (then_app (with_file_apps bare_app file_commands) edit_app) cat_app) merge_app) net_app
front a b c d e first second third fourth fifth =
    fifth ∙ ap (λ x. then_app x net_app) (fourth ∙ ap (λ x. then_app x merge_app) (third ∙ ap (λ x. then_app x cat_app) (second ∙ ap (λ x. then_app x edit_app) first)))

-- and with the others they are the whole
whole : (e f g h i j : App) → e ≡ then_app (then_app (then_app (then_app (with_file_apps bare_app file_commands) edit_app) cat_app) merge_app) net_app → f ≡ then_app e make_app → g ≡ then_app f watch_app
    → h ≡ then_app g undo_app → i ≡ then_app h caret_app → j ≡ then_app i blame_app → j ≡ egw_app
unfolding egw_app
whole e f g h i j first sixth seventh eighth ninth tenth =
    tenth
    ∙ ap (λ x. then_app x blame_app) (ninth
    ∙ ap (λ x. then_app x caret_app) (eighth ∙ ap (λ x. then_app x undo_app) (seventh ∙ ap (λ x. then_app x watch_app) (sixth ∙ ap (λ x. then_app x make_app) first))))

pub returns : goal.returns
returns c =
    let first = c.in_ok-command.ensures ∙ ap (λ x. with_file_apps x file_commands) c.bare_command.ensures in
    let net = front _ _ _ _ _ first c.in_ok-command-2.ensures c.in_ok-command-3.ensures c.in_ok-command-4.ensures c.in_ok-command-5.ensures in
    IfOk-weaker c.with_blame.result _ _
    (λ m h. whole _ _ _ _ _ _ net c.in_ok-command-6.ensures c.in_ok-command-7.ensures c.in_ok-command-8.ensures c.in_ok-command-9.ensures h) c.with_blame.ensures
