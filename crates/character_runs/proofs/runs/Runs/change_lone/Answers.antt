use Rattle.std.proofs.Common.{◌≡◌, ℕ, Option, IfSome, IfNone, List, length, map, Contains, ap, ◌∙◌, subst, sym, arith}
use Rattle.std.specs.List.{AllByRecursion}
use Rattle.walker_record.specs.Stretches.{Stretch, node_on}
use Rattle.order_tree.specs.Pairs.{runs}
use Rattle.fugue_place.specs.Attachments.{node_eq}
use Rattle.character_runs.specs.declared.runs.changing.Altered.{Altered}
use Rattle.character_runs.specs.declared.runs.reading.Found.{Found}
use Rattle.character_runs.specs.States.{HasRoom, knows, changed, changed_at}
use Rattle.character_runs.specs.Laid.{Stands, chars_in}
use Rattle.character_runs.specs.Replacing.{Replaces, Recounted}
use Rattle.character_runs.proofs.CharPlaces.{none_of}
use Rattle.character_runs.proofs.Changing.{change_len, lone_offset, lone_nodes}
use Rattle.character_runs.proofs.KnownNodes.{known_nowhere}
use Rattle.character_runs.proofs.LooseCuts.{may_loose, may_ahead, may_behind}
use Rattle.character_runs.proofs.Replaced.{replaced, none_changed}
use Rattle.character_runs.proofs.runs.Runs.change_lone.Goals as goal

pub recast-requires-clause-held : goal.recast-requires-clause-held
recast-requires-clause-held g c = subst (λ (o : Option Found). IfSome o (λ f. Contains c.lone.new.self.tree.pairs (f.label, f.run))) c.in-Some.is c.in_ok-found.ensures.held

pub recast-requires-clause-some : goal.recast-requires-clause-some
recast-requires-clause-some g c =
    let alone : c.in-Some.found.run.len ≡ 1 = subst (λ (o : Option Found). IfSome o (λ f. f.run.len ≡ 1)) c.in-Some.is c.in_ok-found.ensures.alone in
    omega (arith, alone)

pub recast-requires-clause-room : goal.recast-requires-clause-room
recast-requires-clause-room g c = subst (λ (xs : List Stretch). AllByRecursion HasRoom xs) (sym c.lone.ensures.chars) c.requires.room

pub recast-requires-clause-few : goal.recast-requires-clause-few
recast-requires-clause-few g c = let long = ap (λ (xs : List Stretch). length xs) c.lone.ensures.chars in omega (arith, long, c.requires.few)

pub returns-clause-chars : goal.returns-clause-chars
returns-clause-chars g c =
    let node : c.in-Some.found.run.from ≡ c.args.node = subst (λ (o : Option Found). IfSome o (λ f. f.run.from ≡ c.args.node)) c.in-Some.is c.in_ok-found.ensures.node in
    let alone : c.in-Some.found.run.len ≡ 1 = subst (λ (o : Option Found). IfSome o (λ f. f.run.len ≡ 1)) c.in-Some.is c.in_ok-found.ensures.alone in
    c.recast.ensures.chars (λ w. node_eq w c.args.node) (lone_nodes c.in-Some.found.run c.args.node alone node)
    ∙ ap (map (changed_at c.args.node c.args.change)) c.lone.ensures.chars

pub returns-clause-one : goal.returns-clause-one
returns-clause-one g c =
    let held : Contains c.lone.new.self.tree.pairs (c.in-Some.found.label, c.in-Some.found.run) = subst (λ (o : Option Found). IfSome o (λ f. Contains c.lone.new.self.tree.pairs (f.label, f.run))) c.in-Some.is c.in_ok-found.ensures.held in
    let alone : c.in-Some.found.run.len ≡ 1 = subst (λ (o : Option Found). IfSome o (λ f. f.run.len ≡ 1)) c.in-Some.is c.in_ok-found.ensures.alone in
    let ps = c.lone.new.self.tree.pairs in
    let found = c.in-Some.found in
    let now = changed c.args.change found.run in
    subst (λ (a : Altered). Replaces (chars_in c.args.self.now.tree.pairs) (chars_in c.recast.new.self.tree.pairs) a.before a.after) (sym c.recast.ensures.altered)
    (subst (λ (xs : List Stretch). Replaces xs (chars_in c.recast.new.self.tree.pairs) found.run now) c.lone.ensures.chars
    (subst (λ (qs : List (ℕ × Stretch)). Replaces (chars_in ps) (chars_in qs) found.run now) (sym c.recast.ensures.pairs)
    (replaced ps c.in_ok-found.ensures.rising found.label found.run held alone now (change_len c.args.change found.run ∙ alone))))

pub returns-clause-recounted : goal.returns-clause-recounted
returns-clause-recounted g c = subst (λ (xs : List Stretch). Recounted xs (chars_in c.recast.new.self.tree.pairs) c.recast.result) c.lone.ensures.chars c.recast.ensures.recounted

pub returns-clause-was : goal.returns-clause-was
returns-clause-was g c =
    let node : c.in-Some.found.run.from ≡ c.args.node = subst (λ (o : Option Found). IfSome o (λ f. f.run.from ≡ c.args.node)) c.in-Some.is c.in_ok-found.ensures.node in
    let alone : c.in-Some.found.run.len ≡ 1 = subst (λ (o : Option Found). IfSome o (λ f. f.run.len ≡ 1)) c.in-Some.is c.in_ok-found.ensures.alone in
    ap (λ (xs : List Stretch). knows xs c.args.node) (sym c.lone.ensures.chars)
    ∙ c.recast.ensures.was c.args.node 0 (lone_offset c.in-Some.found.run c.args.node alone node)

pub returns-clause-is : goal.returns-clause-is
returns-clause-is g c =
    let node : c.in-Some.found.run.from ≡ c.args.node = subst (λ (o : Option Found). IfSome o (λ f. f.run.from ≡ c.args.node)) c.in-Some.is c.in_ok-found.ensures.node in
    let alone : c.in-Some.found.run.len ≡ 1 = subst (λ (o : Option Found). IfSome o (λ f. f.run.len ≡ 1)) c.in-Some.is c.in_ok-found.ensures.alone in
    c.recast.ensures.is c.args.node 0 (lone_offset c.in-Some.found.run c.args.node alone node)

pub returns-in_default-clause-chars : goal.returns-in_default-clause-chars
returns-in_default-clause-chars g c =
    let nowhere : (label n : ℕ) → Stands c.lone.new.self.tree.pairs label n c.args.node → ⊥ = subst (λ (o : Option Found). IfNone o ((label n : ℕ) → Stands c.lone.new.self.tree.pairs label n c.args.node → ⊥)) c.in_default.is c.in_ok-found.ensures.none in
    let ps = c.lone.new.self.tree.pairs in
    sym (none_changed (chars_in ps) c.args.node c.args.change (none_of ps c.args.node nowhere))
    ∙ ap (map (changed_at c.args.node c.args.change)) c.lone.ensures.chars

pub returns-in_default-clause-was : goal.returns-in_default-clause-was
returns-in_default-clause-was g c =
    let nowhere : (label n : ℕ) → Stands c.lone.new.self.tree.pairs label n c.args.node → ⊥ = subst (λ (o : Option Found). IfNone o ((label n : ℕ) → Stands c.lone.new.self.tree.pairs label n c.args.node → ⊥)) c.in_default.is c.in_ok-found.ensures.none in
    ap (λ (xs : List Stretch). knows xs c.args.node) (sym c.lone.ensures.chars) ∙ known_nowhere c.args.node c.lone.new.self.tree.pairs nowhere

pub returns-in_default-clause-is : goal.returns-in_default-clause-is
returns-in_default-clause-is g c =
    let nowhere : (label n : ℕ) → Stands c.lone.new.self.tree.pairs label n c.args.node → ⊥ = subst (λ (o : Option Found). IfNone o ((label n : ℕ) → Stands c.lone.new.self.tree.pairs label n c.args.node → ⊥)) c.in_default.is c.in_ok-found.ensures.none in
    known_nowhere c.args.node c.lone.new.self.tree.pairs nowhere

pub returns-in_err-found-clause-loose : goal.returns-in_err-found-clause-loose
returns-in_err-found-clause-loose g c among =
    let h = c.lone.ensures.cut in
    let one = may_loose among (runs c.args.self.now.tree.pairs) h.0 c.args.node h.1 in
    let two = may_loose among h.0 (runs c.lone.new.self.tree.pairs) (node_on c.args.node 1) h.2 in
    omega (arith, one, two)

pub returns-in_err-found-clause-told : goal.returns-in_err-found-clause-told
returns-in_err-found-clause-told g c among is =
    let h = c.lone.ensures.cut in
    let one = may_ahead among (runs c.args.self.now.tree.pairs) h.0 c.args.node h.1 is in
    let two = may_behind among h.0 (runs c.lone.new.self.tree.pairs) c.args.node h.2 is in
    omega (arith, one, two)

pub returns-clause-loose : goal.returns-clause-loose
returns-clause-loose g c among =
    let h = c.lone.ensures.cut in
    let one = may_loose among (runs c.args.self.now.tree.pairs) h.0 c.args.node h.1 in
    let two = may_loose among h.0 (runs c.lone.new.self.tree.pairs) (node_on c.args.node 1) h.2 in
    let same = c.recast.ensures.loose among in
    omega (arith, one, two, same)

pub returns-clause-told : goal.returns-clause-told
returns-clause-told g c among is =
    let h = c.lone.ensures.cut in
    let one = may_ahead among (runs c.args.self.now.tree.pairs) h.0 c.args.node h.1 is in
    let two = may_behind among h.0 (runs c.lone.new.self.tree.pairs) c.args.node h.2 is in
    let same = c.recast.ensures.loose among in
    omega (arith, one, two, same)

pub returns-in_default-clause-loose : goal.returns-in_default-clause-loose
returns-in_default-clause-loose g c among =
    let h = c.lone.ensures.cut in
    let one = may_loose among (runs c.args.self.now.tree.pairs) h.0 c.args.node h.1 in
    let two = may_loose among h.0 (runs c.lone.new.self.tree.pairs) (node_on c.args.node 1) h.2 in
    omega (arith, one, two)

pub returns-in_default-clause-told : goal.returns-in_default-clause-told
returns-in_default-clause-told g c among is =
    let h = c.lone.ensures.cut in
    let one = may_ahead among (runs c.args.self.now.tree.pairs) h.0 c.args.node h.1 is in
    let two = may_behind among h.0 (runs c.lone.new.self.tree.pairs) c.args.node h.2 is in
    omega (arith, one, two)
