use Rattle.std.proofs.Common.{◌≡◌, ◌+◌, ◌<◌, ◌^◌, List, [], ◌∷◌, ◌++◌, length, None, sym, subst, ap, ◌∙◌, arith}
use Rattle.std.specs.BTreeMap.{get}
use Rattle.std.specs.Option.{IfSome, IfNone}
use Rattle.fugue_place.specs.declared.child.Side.{Side}
use Rattle.fugue_place.specs.declared.child.Side.TheVariants.{Left, Right}
use Rattle.fugue_place.specs.declared.child.Attached.{Attached}
use Rattle.fugue_place.specs.Attachments.{MayAttach, is_attached, has_id}
use Rattle.fugue_place.specs.Lines.{IsNewOutermost, IsNoOutermost}
use Rattle.fugue_place.specs.Places.{ArePlaces}
use Rattle.fugue_place.specs.Spots.{spot_cmp, IsIndex}
use Rattle.fugue_place.specs.Ways.{way_of, LeadOutward}
use Rattle.fugue_place.proofs.KeptLaws.{unchanged, siblings_same, siblings_more, behind_early}
use Rattle.fugue_place.proofs.LeaderLaws.{other_side}
use Rattle.fugue_place.proofs.ReadyWays.{ready_same}
use Rattle.fugue_place.proofs.table.Siblings.attach_right.Goals as goal

pub leader_of-leader-requires : goal.leader_of-leader-requires
leader_of-leader-requires c =
    let old = c.self.inside in
    let kept = c.self.invariant in
    record {
      attached = kept.attached;
      places = kept.places;
      ways = subst (λ (s : Side). LeadOutward s old.children.items old.right) (sym c.requires.side) kept.right;
    }

pub invariant_of-self : goal.invariant_of-self
invariant_of-self c =
    let old = c.self.inside in
    let kept = c.self.invariant in
    siblings_same old.children.items c.reserve.new.self.items (get spot_cmp old.spots) (get spot_cmp old.spots) old.places old.places old.left old.right old.left old.right
    kept c.reserve.ensures.same kept.spots kept.places (unchanged old.left) (unchanged old.right)

pub prepare-requires : goal.prepare-requires
prepare-requires c = record { ways = c.self.invariant.left.ways; behind = tt }

pub invariant_of-self-in_err-prepare : goal.invariant_of-self-in_err-prepare
invariant_of-self-in_err-prepare c =
    let old = c.self.inside in
    let kept = c.self.invariant in
    siblings_same old.children.items c.reserve.new.self.items (get spot_cmp old.spots) (get spot_cmp old.spots) old.places old.places old.left old.right c.prepare.new.self old.right
    kept c.reserve.ensures.same kept.spots kept.places c.in_err-prepare.ensures.err (unchanged old.right)

pub enlist_behind-requires : goal.enlist_behind-requires
enlist_behind-requires c =
    let a : Attached = c.args.child in
    let old = c.self.inside in
    let kept = c.self.invariant in
    let before = c.reserve.ensures.same in
    let all = before ∙ c.self.view_is in
    record {
      ways = kept.right.ways;
      behind = behind_early Right old.children.items a old.right kept.right c.leader_of-leader.result
          (subst (λ (s : Side). IfSome c.leader_of-leader.result (IsNewOutermost s old.children.items (way_of old.right) a)) c.requires.side c.leader_of-leader.ensures.some);
      spots = subst (λ (xs : List Attached). IsIndex xs (get spot_cmp old.spots)) (sym before) kept.spots;
      places = subst (λ (xs : List Attached). ArePlaces xs old.places) (sym before) kept.places;
      new = ap (λ (xs : List Attached). is_attached xs a.node) all ∙ c.requires.may.new;
      unused = ap (λ (xs : List Attached). has_id xs a.id) all ∙ c.requires.may.unused;
    }

pub invariant_of-self-in_err-enlist_behind : goal.invariant_of-self-in_err-enlist_behind
invariant_of-self-in_err-enlist_behind c =
    let old = c.self.inside in
    let kept = c.self.invariant in
    let before = c.reserve.ensures.same in
    siblings_same old.children.items c.reserve.new.self.items (get spot_cmp old.spots) (get spot_cmp c.enlist_behind.new.spots) old.places c.enlist_behind.new.places old.left old.right c.prepare.new.self c.enlist_behind.new.ways
    kept before (subst (λ (xs : List Attached). IsIndex xs (get spot_cmp c.enlist_behind.new.spots)) before c.in_err-enlist_behind.ensures.same_spots)
    (subst (λ (xs : List Attached). ArePlaces xs c.enlist_behind.new.places) before c.in_err-enlist_behind.ensures.same_places) (ready_same old.left c.prepare.new.self c.in_ok-prepare.ensures.ok.ready) c.in_err-enlist_behind.ensures.same_ways

pub begin-requires : goal.begin-requires
begin-requires c =
    let old = c.self.inside in
    let kept = c.self.invariant in
    let few : length c.reserve.new.self.items + 1 < 2 ^ 32 = c.in_ok-agent.ensures.few in
    let same : length c.reserve.new.self.items ≡ length old.children.items = ap length c.reserve.ensures.same in
    let count : c.prepare.new.self.count ≡ length old.children.items = c.in_ok-prepare.ensures.ok.ready.count ∙ kept.left.count in
    record { ready = (old.left, kept.left.ways, c.in_ok-prepare.ensures.ok.ready); few = omega (arith, few, same, count) }

pub begin-requires-2 : goal.begin-requires-2
begin-requires-2 c =
    let old = c.self.inside in
    let kept = c.self.invariant in
    let few : length c.reserve.new.self.items + 1 < 2 ^ 32 = c.in_ok-agent.ensures.few in
    let same : length c.reserve.new.self.items ≡ length old.children.items = ap length c.reserve.ensures.same in
    let count : c.enlist_behind.new.ways.count ≡ length old.children.items = c.in_ok-enlist_behind.ensures.ways.count ∙ kept.right.count in
    record { ready = (old.right, kept.right.ways, c.in_ok-enlist_behind.ensures.ways); few = omega (arith, few, same, count) }

pub invariant_of-self-2 : goal.invariant_of-self-2
invariant_of-self-2 c =
    let a : Attached = c.args.child in
    let old = c.self.inside in
    let items = old.children.items in
    let kept = c.self.invariant in
    let before = c.reserve.ensures.same in
    siblings_more items c.push_reserved.new.self.items a (c.push_reserved.ensures ∙ ap (λ (xs : List Attached). xs ++ a ∷ []) before) (subst (λ (xs : List Attached). MayAttach xs a) (sym c.self.view_is) c.requires.may)
    (get spot_cmp old.spots) (get spot_cmp c.enlist_behind.new.spots) old.places c.enlist_behind.new.places old.left old.right c.begin.new.self c.begin-2.new.self kept
    (subst (λ (xs : List Attached). IsIndex (xs ++ a ∷ []) (get spot_cmp c.enlist_behind.new.spots)) before c.in_ok-enlist_behind.ensures.spots)
    (subst (λ (xs : List Attached). ArePlaces (xs ++ a ∷ []) c.enlist_behind.new.places) before c.in_ok-enlist_behind.ensures.places)
    None c.leader_of-leader.result tt (other_side items kept.attached Left (way_of old.left) kept.left.outermost a (λ (is : a.side ≡ Left). let no : Right ≡ Left = sym c.requires.side ∙ is in absurd cc))
    (subst (λ (s : Side). IfSome c.leader_of-leader.result (IsNewOutermost s items (way_of old.right) a)) c.requires.side c.leader_of-leader.ensures.some) (subst (λ (s : Side). IfNone c.leader_of-leader.result (IsNoOutermost s items (way_of old.right) a)) c.requires.side c.leader_of-leader.ensures.none)
    (c.begin.ensures old.left kept.left.ways c.in_ok-prepare.ensures.ok.ready)
    (c.begin-2.ensures old.right kept.right.ways c.in_ok-enlist_behind.ensures.ways)

pub returns-clause-ok : goal.returns-clause-ok
returns-clause-ok c =
    let a : Attached = c.args.child in
    c.push_reserved.ensures ∙ ap (λ (xs : List Attached). xs ++ a ∷ []) (c.reserve.ensures.same ∙ c.self.view_is)
