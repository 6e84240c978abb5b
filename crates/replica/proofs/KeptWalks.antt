-- Walks that are kept, where events are appended.
use Rattle.std.proofs.Common.{◌≡◌, ℕ, true, List, [], length, take, Option, Some, None, IfSome, is_some, sym, ap, ◌∙◌, subst, arith}
use Rattle.std.proofs.lemmas.Bool.{false≢true}
use Rattle.ew_model.specs.declared.event.Event.{Event}
use Rattle.ew_model.specs.Cuts.{is_critical}
use Rattle.ew_model.specs.Texts.{text_of}
use Rattle.transform.specs.declared.kept.KeptWalk.{KeptWalk}
use Rattle.transform.specs.Keeping.{IsFresh, IsWalkOf}
use Rattle.transform.proofs.KeptWalks.{walk_begins, walk_stays}
use Rattle.replica.specs.declared.walks.Walks.{Walks}
use Rattle.replica.specs.Fronts.{IsFront}
use Rattle.replica.specs.Walks.{AreKept, BeginsAt, CameBehind, GoesBehind, MayGoOn, held_after}
use Rattle.replica.proofs.RoundCuts.{base_is}

-- a walk of the events held before is one of those held now
pub still_walk : (held graph : List Event) → IsFront held graph → (walk : KeptWalk) → IsWalkOf held walk → IsWalkOf graph walk
still_walk held graph front walk is = subst (λ (es : List Event). IsWalkOf es walk) (sym front.1) (walk_stays held front.0 walk is)

pub if_still : (held graph : List Event) → IsFront held graph → (walk : Option KeptWalk) → IfSome walk (IsWalkOf held) → IfSome walk (IsWalkOf graph)
if_still held graph front None is = tt
if_still held graph front (Some walk) is = still_walk held graph front walk is

-- and so is one that may go on
pub if_goes : (held graph : List Event) → IsFront held graph → (walk : Option KeptWalk) → IfSome walk (MayGoOn held graph) → IfSome walk (IsWalkOf graph)
if_goes held graph front None may = tt
if_goes held graph front (Some walk) may = still_walk held graph front walk may.walk_of

pub still_kept : (held graph : List Event) → IsFront held graph → (walks : Walks) → AreKept held walks → AreKept graph walks
still_kept held graph front walks are = (if_still held graph front walks.latest are.0, if_still held graph front walks.other are.1)

pub kept_after : (held graph : List Event) (stopped : Option (ℕ × ℕ)) → IsFront held graph → (walks : Walks) → AreKept held walks → AreKept (held_after held graph stopped) walks
kept_after held graph None front walks are = still_kept held graph front walks are
kept_after held graph (Some stop) front walks are = are

-- walks may be known by other names
pub same_walks : (held graph : List Event) (walks : Walks) → graph ≡ held → AreKept held walks → AreKept graph walks
same_walks held graph walks same are = subst (λ (es : List Event). AreKept es walks) (sym same) are

-- none is kept
pub none_kept : (held : List Event) (walks : Walks) → walks.latest ≡ None → walks.other ≡ None → AreKept held walks
none_kept held walks latest other = (subst (λ (o : Option KeptWalk). IfSome o (IsWalkOf held)) (sym latest) tt, subst (λ (o : Option KeptWalk). IfSome o (IsWalkOf held)) (sym other) tt)

-- a kept walk that came behind a cut goes on
pub goes_behind : (held graph : List Event) (cut : ℕ) → IsFront held graph → (walk : KeptWalk) → MayGoOn held graph walk → CameBehind cut walk → GoesBehind held graph cut walk
goes_behind held graph cut front walk may behind = record {
  walk_of = still_walk held graph front walk may.walk_of;
  critical = may.critical;
  within = may.walk_of.within;
  counts = record { begins = λ same. let no : ⊥ = omega (arith, same, behind.0, behind.1) in absurd no; goes_on = λ some. behind.1 };
}

-- and so does one that begins there
pub begins_behind : (held graph : List Event) (cut len : ℕ) (walk : KeptWalk) → BeginsAt held graph cut → len ≡ length (text_of (take cut held)) → IsFresh cut len walk → GoesBehind held graph cut walk
begins_behind held graph cut len walk begins long fresh = record {
  walk_of = walk_begins graph cut len walk begins.critical begins.good (base_is held graph cut len begins long) fresh;
  critical = ap (is_critical graph) fresh.cut_is ∙ begins.critical;
  within = omega (arith, begins.below, fresh.none);
  counts = record { begins = λ same. sym fresh.cut_is; goes_on = λ some. let no : ⊥ = omega (arith, some, fresh.cut_is, fresh.none) in absurd no };
}

-- where a walk didn't stop, those kept are of all events, and else of those held before
pub kept_of_all : (held graph : List Event) (stopped : Option (ℕ × ℕ)) (walks : Walks) → stopped ≡ None → AreKept (held_after held graph stopped) walks → AreKept graph walks
kept_of_all held graph stopped walks none are = subst (λ (o : Option (ℕ × ℕ)). AreKept (held_after held graph o) walks) none are

pub kept_of_held : (held graph : List Event) (stopped : Option (ℕ × ℕ)) (walks : Walks) → is_some stopped ≡ true → AreKept (held_after held graph stopped) walks → AreKept held walks
kept_of_held held graph None walks some are = absurd (false≢true some)
kept_of_held held graph (Some stop) walks some are = are
