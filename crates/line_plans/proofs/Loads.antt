-- Which files a merge loaded.
use Rattle.std.proofs.Common.{◌≡◌, ◌∙◌, ℕ, List, [], ◌∷◌, Option, Some, None, IfOk, IfSome, Result, Ok, Err, ap, arith}
use Rattle.ew_model.specs.declared.event.Event.{Event}
use Rattle.ew_model.specs.Limits.{LimitNumbers}
use Rattle.ew_outside.specs.Counts.{Asks, AsksAtMost, next}
use Rattle.ew_outside.specs.Files.{Files}
use Rattle.command_table.specs.Reads.{if_open, CountsLoads, LoadsFront}
use Rattle.command_table.specs.Refusals.{Refusal}
use Rattle.command_table.specs.Table.{Text, opened, refused, open_file}
use Rattle.ew_outside.specs.declared.fault.Fault.{Fault}
use Rattle.opened_files.specs.Views.{LoadsDone}
use Rattle.opened_files.specs.declared.reply.Reply.TheVariants as reply_is
use Rattle.opened_files.specs.declared.reply.Reply as code

pub first_front : (name other : Text) (before now : ℕ) → now ≡ next before → LoadsFront (name ∷ other ∷ []) before now
first_front name other before now one = (1, one)

pub both_front : (name other : Text) (before mid now : ℕ) → mid ≡ next before → now ≡ next mid → LoadsFront (name ∷ other ∷ []) before now
both_front name other before mid now first second = (2, second ∙ ap next first)

-- the first file of a merge is refused
pub loads_refused : (name other : Text) (limits : LimitNumbers) (why : Refusal) (files : Option Files) (before now : ℕ)
    → IfSome files (λ m. refused why ≡ open_file name limits m) → now ≡ next before → CountsLoads (name ∷ other ∷ []) limits files before now
loads_refused name other limits why (Some m) before now is one = one ∙ ap (λ o. if_open o (next (next before)) (next before)) is
loads_refused name other limits why None before now is one = tt

-- the first file of a merge is open
pub loads_opened : (name other : Text) (limits : LimitNumbers) (held : List Event) (files : Option Files) (before mid now : ℕ) (result : Result code.Reply Fault)
    → IfSome files (λ m. opened held ≡ open_file name limits m) → mid ≡ next before → now ≡ next mid
    → IfOk result (λ p. CountsLoads (name ∷ other ∷ []) limits files before now)
loads_opened name other limits held (Some m) before mid now (Ok p) is first second =
    second ∙ ap next first ∙ ap (λ o. if_open o (next (next before)) (next before)) is
loads_opened name other limits held None before mid now (Ok p) is first second = tt
loads_opened name other limits held files before mid now (Err e) is first second = tt

-- both loads were made
pub all_both : (name other : Text) (before mid now : ℕ) (result : Result code.Reply Fault) → mid ≡ next before → now ≡ next mid
    → IfOk result (LoadsDone (name ∷ other ∷ []) before now)
all_both name other before mid now (Ok (reply_is.Prints out)) first second = second ∙ ap next first
all_both name other before mid now (Ok (reply_is.Stores out to bytes)) first second = second ∙ ap next first
all_both name other before mid now (Ok (reply_is.Refuses why)) first second = tt
all_both name other before mid now (Err e) first second = tt

-- both ask for the same at most
pub asked_both : (most before mid now : ℕ) → Asks most before mid → Asks most mid now → AsksAtMost most before now
asked_both most before mid now first second = omega (arith, first, second)
