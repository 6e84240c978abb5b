use Rattle.std.proofs.Common.{refl, reverse, sym, subst, ◌∙◌}
use Rattle.std.specs.BTreeSet.{contains}
use Rattle.std.proofs.lemmas.Bool.{not-true}
use Rattle.ew_model.specs.Ids.{id_cmp}
use Rattle.walk_trials.specs.Calls.{Calls, UsesId}
use Rattle.walk_trials.proofs.calls.Calls.use_id.Goals as goal

pub returns : goal.returns
returns c = λ is_new.
    let inside = c.self.inside in
    let after : Calls = record { next = inside.next; ids = c.insert.new.self; prepared = reverse inside.prepared.items; out = reverse inside.out.items } in
    subst (λ (k : Calls). UsesId k after c.args.id) c.self.view_is
    (record {
      was = not-true (contains id_cmp inside.ids c.args.id) (sym c.in_ok-insert.ensures.added ∙ is_new);
      is = c.in_ok-insert.ensures.updates.0;
      next = refl;
      prepared = refl;
      out = refl;
    })
