-- Each input has one framing.
use Rattle.std.proofs.Common.{◌≡◌, ℕ, false, List, [], ◌∷◌, take, refl, sym, ap, subst, ◌∙◌}
use Rattle.ew_model.specs.Limits.{LimitNumbers}
use Rattle.ew_model.proofs.ByteLaws.{AreBytes-take}
use Rattle.peer_definitions.specs.declared.frame.Frame.{Frame}
use Rattle.peer_definitions.specs.Cutting.{Front, Finds, AreFrames, is_whole}
use Rattle.peer_definitions.specs.Cutting.Front.{Whole}
use Rattle.peer_frames.proofs.Cuts.{fronts_are_one, cuts_are_one, cuts_are_found}
use Rattle.command_table.specs.Framings.{BeginWith}
use Rattle.table_laws.specs.FramingLaws.{FramingsAreFound, FramingsAreOne, FramingsAreCuts}
use Rattle.command_table.proofs.Framings.{are_cut}

-- and something stands behind the frames that bytes are cut into
pub parted : (limits : LimitNumbers) (bytes : List ℕ) (frames : List Frame) (stop : Front) → AreFrames limits bytes frames stop
    → (rest : List ℕ) × BeginWith limits bytes frames rest × Finds limits rest stop × (is_whole stop ≡ false)
parted limits bytes [] stop cut = (bytes, refl, cut.0, cut.1)
parted limits bytes (f ∷ frames) stop cut =
    let more = parted limits cut.0 frames stop cut.2 in
    (more.0, (cut.0, cut.1, more.1), more.2, more.3)

same_rest : (f : Frame) (r s : List ℕ) → Whole f r ≡ Whole f s → r ≡ s
same_rest f r s e = cc

-- the same bytes stand behind the same frames
pub rests_are_one : (limits : LimitNumbers) (bytes : List ℕ) (frames : List Frame) (rest other : List ℕ)
    → BeginWith limits bytes frames rest → BeginWith limits bytes frames other → rest ≡ other
rests_are_one limits bytes [] rest other a b = a ∙ sym b
rests_are_one limits bytes (f ∷ frames) rest other a b =
    let same = same_rest f a.0 b.0 (fronts_are_one limits bytes (Whole f a.0) (Whole f b.0) a.1 b.1) in
    rests_are_one limits b.0 frames rest other (subst (λ bs. BeginWith limits bs frames rest) same a.2) b.2

pub framings_are_cuts : FramingsAreCuts
framings_are_cuts limits input f is = are_cut limits (take limits.input input) f.frames f.rest f.stop is.begins is.found is.none

pub framings_are_found : FramingsAreFound
framings_are_found limits input fits =
    let cut = cuts_are_found limits (take limits.input input) (AreBytes-take limits.input input fits) in
    let p = parted limits (take limits.input input) cut.0 cut.1 cut.2 in
    (record { frames = cut.0; rest = p.0; stop = cut.1 }, record { begins = p.1; found = p.2; none = p.3 })

pub framings_are_one : FramingsAreOne
framings_are_one limits input f other is also =
    let bytes = take limits.input input in
    let same = cuts_are_one limits bytes f.frames other.frames f.stop other.stop (framings_are_cuts limits input f is) (framings_are_cuts limits input other also) in
    let rest = rests_are_one limits bytes other.frames f.rest other.rest (subst (λ fs. BeginWith limits bytes fs f.rest) same.0 is.begins) also.begins in
    ap (λ fs. record { frames = fs; rest = f.rest; stop = f.stop }) same.0
    ∙ (ap (λ r. record { frames = other.frames; rest = r; stop = f.stop }) rest
    ∙ ap (λ s. record { frames = other.frames; rest = other.rest; stop = s }) same.1)
