use Rattle.std.proofs.Common.{◌≡◌, ℕ, Option, IfSome, IfNone, List, length, ◌∙◌, subst, sym, arith, ◌+◌, ◌≤◌, Bool, true, ap}
use Rattle.walker_record.specs.Stretches.{Stretch}
use Rattle.fugue_place.specs.declared.neighbour.Place.TheVariants.{Before}
use Rattle.order_tree.specs.Pairs.{HasRoom, up_to, lower, runs}
use Rattle.character_runs.specs.declared.runs.Spot.{Spot}
use Rattle.character_runs.specs.Entering.{IsNewChild, EntersAt}
use Rattle.character_runs.specs.Laid.{Stands, chars_in}
use Rattle.character_runs.specs.Spots.{Comes}
use Rattle.character_runs.proofs.RunsAt.{same_chars}
use Rattle.character_runs.proofs.Parting.{still_begins}
use Rattle.character_runs.proofs.Entered.{if_ok_then, on_err_then, comes_ahead, comes_first_ahead}
use Rattle.ew_model.specs.declared.node.Node.{Node}
use Rattle.character_runs.specs.Loose.{loose_in, loose_parted, MayBeCut}
use Rattle.ew_model.specs.declared.node.Node.TheVariants.{Event}
use Rattle.character_runs.proofs.LooseCuts.{may_loose}
use Rattle.character_runs.proofs.LooseEntries.{ahead_told, first_ahead_told}
use Rattle.character_runs.proofs.runs.Runs.insert_ahead.Goals as goal
use Rattle.ew_model.proofs.Outcomes.{on_ok_then, on_err}

pub returns-in_err-room-clause-err : goal.returns-in_err-room-clause-err
returns-in_err-room-clause-err g c =
    on_err c.from_residual-in_err-room.result (chars_in c.make_room_at.new.self.tree.pairs ≡ chars_in c.args.self.now.tree.pairs)
    (same_chars c.make_room_at.new.self.tree.pairs c.cut.new.self.tree.pairs c.make_room_at.ensures.runs ∙ c.cut.ensures.chars)

pub prepend-requires-clause-new : goal.prepend-requires-clause-new
prepend-requires-clause-new g c =
    subst (λ (rs : List Stretch). IsNewChild rs c.args.siblings.now c.args.child.now)
    (sym (same_chars c.make_room_at.new.self.tree.pairs c.cut.new.self.tree.pairs c.make_room_at.ensures.runs ∙ c.cut.ensures.chars)) c.requires.new

pub prepend-requires-clause-held : goal.prepend-requires-clause-held
prepend-requires-clause-held g c =
    let qs = c.make_room_at.new.self.tree.pairs in
    let s = subst (λ (o : Option Spot). IfSome o (λ s. Stands qs s.label s.offset c.args.node)) c.in-Some.is c.in_ok-room.ensures.spot in
    let lt = s.inside in
    (s.run, s.held, omega (arith, lt))

pub prepend-requires-clause-room : goal.prepend-requires-clause-room
prepend-requires-clause-room g c =
    let qs = c.make_room_at.new.self.tree.pairs in
    subst (λ (o : Option Spot). IfSome o (λ s. HasRoom qs s.label)) c.in-Some.is c.in_ok-room.ensures.behind

pub returns-in-Some-clause-comes : goal.returns-in-Some-clause-comes
returns-in-Some-clause-comes g c =
    let qs = c.make_room_at.new.self.tree.pairs in
    let cut = c.cut.new.self.tree.pairs in
    let s = subst (λ (o : Option Spot). IfSome o (λ s. Stands qs s.label s.offset c.args.node)) c.in-Some.is c.in_ok-room.ensures.spot in
    let spot = c.in-Some.spot in
    let begins = still_begins cut qs c.cut.new.self.labels c.make_room_at.new.self.labels c.cut.ensures.laid c.make_room_at.ensures.laid c.make_room_at.ensures.runs c.args.node c.in_ok-begun.ensures.first in
    let same = same_chars qs cut c.make_room_at.ensures.runs ∙ c.cut.ensures.chars in
    let old = chars_in c.args.self.now.tree.pairs in
    let new = chars_in c.prepend.new.self.tree.pairs in
    if_ok_then c.prepend.result (EntersAt (chars_in qs) new c.args.child.now (length (chars_in (lower qs spot.label)))) (Comes old new (Before c.args.node) c.args.child.now.position)
    (λ m e. comes_ahead qs c.facts.ensures.rising old new same c.args.child.now c.args.node m spot.label spot.offset s begins e) c.prepend.ensures.enters

pub returns-in-Some-clause-err : goal.returns-in-Some-clause-err
returns-in-Some-clause-err g c =
    let qs = c.make_room_at.new.self.tree.pairs in
    let old = chars_in c.args.self.now.tree.pairs in
    let new = chars_in c.prepend.new.self.tree.pairs in
    let same = same_chars qs c.cut.new.self.tree.pairs c.make_room_at.ensures.runs ∙ c.cut.ensures.chars in
    on_err_then c.prepend.result (new ≡ chars_in qs) (new ≡ old) (λ e. e ∙ same) c.prepend.ensures.err

pub insert_run-requires-clause-new : goal.insert_run-requires-clause-new
insert_run-requires-clause-new g c =
    subst (λ (rs : List Stretch). IsNewChild rs c.args.siblings.now c.args.child.now)
    (sym (same_chars c.make_room_at.new.self.tree.pairs c.cut.new.self.tree.pairs c.make_room_at.ensures.runs ∙ c.cut.ensures.chars)) c.requires.new

pub insert_run-requires-clause-room : goal.insert_run-requires-clause-room
insert_run-requires-clause-room g c =
    let qs = c.make_room_at.new.self.tree.pairs in
    subst (λ (o : Option Spot). IfNone o (HasRoom qs 0)) c.in-None.is c.in_ok-room.ensures.before

pub returns-in-None-clause-comes : goal.returns-in-None-clause-comes
returns-in-None-clause-comes g c =
    let qs = c.make_room_at.new.self.tree.pairs in
    let cut = c.cut.new.self.tree.pairs in
    let none = subst (λ (o : Option Spot). IfNone o ((label n : ℕ) → Stands qs label n c.args.node → ⊥)) c.in-None.is c.in_ok-room.ensures.none in
    let same = same_chars qs cut c.make_room_at.ensures.runs ∙ c.cut.ensures.chars in
    let old = chars_in c.args.self.now.tree.pairs in
    let new = chars_in c.insert_run.new.self.tree.pairs in
    if_ok_then c.insert_run.result (EntersAt (chars_in qs) new c.args.child.now (length (chars_in (up_to qs 0)))) (Comes old new (Before c.args.node) c.args.child.now.position)
    (λ m e. comes_first_ahead qs c.facts.ensures.rising old new same c.args.child.now c.args.node m none e) c.insert_run.ensures.enters

pub returns-in-None-clause-err : goal.returns-in-None-clause-err
returns-in-None-clause-err g c =
    let qs = c.make_room_at.new.self.tree.pairs in
    let old = chars_in c.args.self.now.tree.pairs in
    let new = chars_in c.insert_run.new.self.tree.pairs in
    let same = same_chars qs c.cut.new.self.tree.pairs c.make_room_at.ensures.runs ∙ c.cut.ensures.chars in
    on_err_then c.insert_run.result (new ≡ chars_in qs) (new ≡ old) (λ e. e ∙ same) c.insert_run.ensures.err

pub returns-in_err-begun-clause-loose : goal.returns-in_err-begun-clause-loose
returns-in_err-begun-clause-loose g c =
    let ps = c.args.self.now.tree.pairs in
    on_err c.from_residual.result ((among : Node → Bool) → loose_in among (runs c.cut.new.self.tree.pairs) ≤ loose_in among (runs ps) + 2)
    (λ among. let one = may_loose among (runs ps) (runs c.cut.new.self.tree.pairs) c.args.node c.cut.ensures.cut in omega (arith, one))

pub returns-in_err-room-clause-loose : goal.returns-in_err-room-clause-loose
returns-in_err-room-clause-loose g c =
    let ps = c.args.self.now.tree.pairs in
    let qs = c.make_room_at.new.self.tree.pairs in
    on_err c.from_residual-in_err-room.result ((among : Node → Bool) → loose_in among (runs qs) ≤ loose_in among (runs ps) + 2)
    (λ among.
    let same = ap (loose_in among) c.make_room_at.ensures.runs in
    let one = may_loose among (runs ps) (runs c.cut.new.self.tree.pairs) c.args.node c.cut.ensures.cut in
    omega (arith, same, one))

pub returns-in-Some-clause-told : goal.returns-in-Some-clause-told
returns-in-Some-clause-told g c =
    let ps = c.args.self.now.tree.pairs in
    let qs = c.make_room_at.new.self.tree.pairs in
    let cut = subst (λ (rs : List Stretch). MayBeCut (runs ps) rs c.args.node) (sym c.make_room_at.ensures.runs) c.cut.ensures.cut in
    let s = subst (λ (o : Option Spot). IfSome o (λ s. Stands qs s.label s.offset c.args.node)) c.in-Some.is c.in_ok-room.ensures.spot in
    let spot = c.in-Some.spot in
    on_ok_then c.prepend.result ((among : Node → Bool) → among (Event c.args.child.now.position) ≡ true → loose_in among (runs c.prepend.new.self.tree.pairs) ≤ loose_parted among (runs qs) (length (lower qs spot.label)))
    ((among : Node → Bool) → among (Event c.args.child.now.position) ≡ true → loose_in among (runs c.prepend.new.self.tree.pairs) ≤ loose_in among (runs ps))
    (λ h among e.
    let le = h among e in
    let told = ahead_told among qs c.make_room_at.new.self.labels c.make_room_at.ensures.laid c.facts.ensures.rising (runs ps) c.args.node spot.label spot.offset s cut in
    omega (arith, le, told)) c.prepend.ensures.told

pub returns-in-Some-clause-loose : goal.returns-in-Some-clause-loose
returns-in-Some-clause-loose g c =
    let ps = c.args.self.now.tree.pairs in
    let qs = c.make_room_at.new.self.tree.pairs in
    let cut = subst (λ (rs : List Stretch). MayBeCut (runs ps) rs c.args.node) (sym c.make_room_at.ensures.runs) c.cut.ensures.cut in
    on_err_then c.prepend.result ((among : Node → Bool) → loose_in among (runs c.prepend.new.self.tree.pairs) ≤ loose_in among (runs qs) + 1)
    ((among : Node → Bool) → loose_in among (runs c.prepend.new.self.tree.pairs) ≤ loose_in among (runs ps) + 2)
    (λ h among.
    let le = h among in
    let one = may_loose among (runs ps) (runs qs) c.args.node cut in
    omega (arith, le, one)) c.prepend.ensures.loose

pub returns-in-None-clause-told : goal.returns-in-None-clause-told
returns-in-None-clause-told g c =
    let ps = c.args.self.now.tree.pairs in
    let qs = c.make_room_at.new.self.tree.pairs in
    let cut = subst (λ (rs : List Stretch). MayBeCut (runs ps) rs c.args.node) (sym c.make_room_at.ensures.runs) c.cut.ensures.cut in
    let none = subst (λ (o : Option Spot). IfNone o ((label n : ℕ) → Stands qs label n c.args.node → ⊥)) c.in-None.is c.in_ok-room.ensures.none in
    on_ok_then c.insert_run.result ((among : Node → Bool) → among (Event c.args.child.now.position) ≡ true → loose_in among (runs c.insert_run.new.self.tree.pairs) ≤ loose_parted among (runs qs) (length (up_to qs 0)))
    ((among : Node → Bool) → among (Event c.args.child.now.position) ≡ true → loose_in among (runs c.insert_run.new.self.tree.pairs) ≤ loose_in among (runs ps))
    (λ h among e.
    let le = h among e in
    let told = first_ahead_told among qs c.make_room_at.new.self.labels c.make_room_at.ensures.laid c.facts.ensures.rising (runs ps) c.args.node none cut in
    omega (arith, le, told)) c.insert_run.ensures.told

pub returns-in-None-clause-loose : goal.returns-in-None-clause-loose
returns-in-None-clause-loose g c =
    let ps = c.args.self.now.tree.pairs in
    let qs = c.make_room_at.new.self.tree.pairs in
    let cut = subst (λ (rs : List Stretch). MayBeCut (runs ps) rs c.args.node) (sym c.make_room_at.ensures.runs) c.cut.ensures.cut in
    on_err_then c.insert_run.result ((among : Node → Bool) → loose_in among (runs c.insert_run.new.self.tree.pairs) ≤ loose_in among (runs qs) + 1)
    ((among : Node → Bool) → loose_in among (runs c.insert_run.new.self.tree.pairs) ≤ loose_in among (runs ps) + 2)
    (λ h among.
    let le = h among in
    let one = may_loose among (runs ps) (runs qs) c.args.node cut in
    omega (arith, le, one)) c.insert_run.ensures.loose
