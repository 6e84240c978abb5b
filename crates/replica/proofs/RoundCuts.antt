-- What a round knows of the events below the cut that its walk begins at.
use Rattle.std.proofs.Common.{◌≡◌, ℕ, ◌+◌, ◌≤◌, List, length, take, Option, None, sym, ap, subst, ◌∙◌, arith}
use Rattle.std.proofs.lemmas.List.{take-append-le}
use Rattle.ew_model.specs.declared.event.Event.{Event}
use Rattle.ew_model.specs.Arrival.{Desk}
use Rattle.ew_model.specs.Cuts.{is_critical, latest_cut}
use Rattle.ew_model.specs.Limits.{LimitNumbers}
use Rattle.ew_model.specs.Rounds.{round_touches}
use Rattle.ew_model.specs.Touches.{touches}
use Rattle.ew_model.specs.Verdicts.{IsGood}
use Rattle.ew_model.specs.Walks.{base_at}
use Rattle.ew_model.proofs.CutLaws.{latest_at_most, latest_critical}
use Rattle.ew_model.specs.Texts.{text_of}
use Rattle.transform.specs.Walking.{judged_of}
use Rattle.replica.specs.Counting.{Counted}
use Rattle.replica.specs.Desks.{LeadsToEnd}
use Rattle.replica.specs.Fronts.{IsFront}
use Rattle.replica.specs.Lengths.{prefix_lengths}
use Rattle.replica.specs.Walks.{BeginsAt}
use Rattle.replica.proofs.LengthLaws.{length-prefix_lengths}
use Rattle.replica.proofs.RoundWays.{round_is}
use Rattle.transform.proofs.WholeWalks.{front_good}

pub begins_at : (held graph : List Event) (count cut : ℕ) → IsGood held → IsFront held graph → count ≡ length held → cut ≡ latest_cut graph count → BeginsAt held graph cut
begins_at held graph count cut good front all is =
    let low = latest_at_most graph count in
    let within : cut ≤ length held = omega (arith, low, is, all) in
    let same : take cut graph ≡ take cut held = ap (take cut) front.1 ∙ take-append-le cut held front.0 within in
    record {
      critical = ap (is_critical graph) is ∙ latest_critical graph count;
      below = within;
      good = subst IsGood (sym same) (front_good held cut good);
      text = sym same;
    }

-- there is a length for it
pub has_length : (held graph : List Event) (lengths : List ℕ) (cut : ℕ) → BeginsAt held graph cut → lengths ≡ prefix_lengths held → cut ≤ length lengths
has_length held graph lengths cut b are = omega (arith, b.below, ap length are, length-prefix_lengths held)

-- the base of the walk
pub base_is : (held graph : List Event) (cut len : ℕ) → BeginsAt held graph cut → len ≡ length (text_of (take cut held)) → len ≡ base_at graph cut
base_is held graph cut len b is = is ∙ ap (λ (es : List Event). length (text_of es)) b.text

-- the touches of the walk are those of the round
pub walked_round : (limits : LimitNumbers) (from to : Desk) (before after : Counted) (count cut : ℕ) → LeadsToEnd limits None from to before after → count ≡ length from.held → cut ≡ latest_cut to.held count
    → touches to.held cut ≡ round_touches limits from
walked_round limits from to before after count cut e all is =
    ap (touches to.held) (is ∙ ap (latest_cut to.held) all) ∙ sym (round_is limits from to before after e)

-- where it doesn't stop, it takes just these
pub whole_round : (limits : LimitNumbers) (from to : Desk) (before after : Counted) (count cut was now : ℕ) (stopped : Option (ℕ × ℕ)) → LeadsToEnd limits None from to before after → count ≡ length from.held → cut ≡ latest_cut to.held count
    → now ≡ was + touches (judged_of to.held stopped) cut → stopped ≡ None → now ≡ was + round_touches limits from
whole_round limits from to before after count cut was now stopped e all is took none =
    took ∙ ap (λ (o : Option (ℕ × ℕ)). was + touches (judged_of to.held o) cut) none ∙ ap (λ n. was + n) (walked_round limits from to before after count cut e all is)
