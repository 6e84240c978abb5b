-- Records of runs: what is read of one is what was written, and the other way round.
use Rattle.std.proofs.Common.{◌≡◌, ℕ, suc, ◌^◌, ◌<◌, ◌≤◌, true, false, List, [], ◌∷◌, ◌++◌, length, flat_map, Option, Some, Ok, refl, sym, ap, subst, ◌∙◌, append_assoc, arith}
use Rattle.std.specs.Prelude.{slice_get}
use Rattle.std.specs.List.{position_or_len, AllByRecursion}
use Rattle.std.proofs.lemmas.Bool.{and_from, not-true, not_from_false}
use Rattle.std.proofs.lemmas.Option.{slice_get_within}
use Rattle.ew_model.specs.declared.id.Id.{Id}
use Rattle.ew_model.specs.declared.event.Event.{Event}
use Rattle.ew_model.specs.Ids.{name_eq, ids_ascend}
use Rattle.ew_model.specs.Ancestors.{ids_of, is_held}
use Rattle.ew_model.specs.Names.{is_name}
use Rattle.ew_model.specs.Sound.{IsSoundId}
use Rattle.ew_model.specs.Bytes.{four_bytes, AreBytes}
use Rattle.ew_model.specs.Writable.{agents_of}
use Rattle.ew_model.proofs.ListPlaces.{place_of, get-take}
use Rattle.file_words.specs.FileFaults.{Reader, done, go_on, ◌>>=◌, byte, number, field, only, read_parents, open_agents}
use Rattle.file_words.specs.FileFaults.RecordFault.{AgentNumber, IdTwice, ParentCount}
use Rattle.file_words.specs.FileRuns.{FileRun, run_ops_bytes, read_run_ops, read_run_record}
use Rattle.file_words.specs.FileRunLaws.{first_event}
use Rattle.file_words.proofs.FileFields.{Takes, Takes-then, go_ok, field_ok, only_ok, tested_ok, field_again, only_again, tested_again, byte_takes, number_takes, number_again}
use Rattle.file_words.proofs.FileRecords.{names_equal, name_exact, get_all, parent_bytes, parents_take, parents_again, IsSetting, MayFollow, new_id, id_from, few_parents}
use Rattle.file_words.proofs.RunFields.{MayBeRun, ops_take, ops_again}

-- a record of a run behind the events before it
abbrev pub run_record_at : List (List ℕ) → List Event → FileRun → List ℕ
run_record_at agents before r =
    four_bytes (position_or_len (name_eq r.id.agent) agents)
    ++ four_bytes r.id.seq
    ++ length r.parents ∷ flat_map (parent_bytes (ids_of before)) r.parents
    ++ run_ops_bytes r.ops

-- a run that may stand behind these events and this run
pub record RunFollows (before : List Event) (last : Option FileRun) (left : ℕ) (r : FileRun) : Type 0 where
  pub id : IsSoundId r.id
  pub parents : AllByRecursion IsSoundId r.parents
  pub first : MayFollow before (first_event r)
  pub ops : MayBeRun before last left r.id r.parents r.ops

pub record IsRunRead (agents : List (List ℕ)) (before : List Event) (last : Option FileRun) (left : ℕ) (bytes : List ℕ) (r : FileRun) (rest : List ℕ) : Type 0 where
  pub takes : Takes bytes (run_record_at agents before r) rest
  pub follows : RunFollows before last left r
  pub place : ℕ
  pub agent : slice_get (open_agents agents before) place ≡ Some r.id.agent

abbrev with_parents : List Event → Option FileRun → ℕ → Id → List Id → Reader FileRun
with_parents before last left x parents = read_run_ops before last left x parents >>= λ ops. done (record { id = x; parents = parents; ops = ops })

abbrev with_count : List Event → Option FileRun → ℕ → Id → ℕ → Reader FileRun
with_count before last left x count = read_parents (ids_of before) [] count >>= with_parents before last left x

abbrev with_id : List Event → Option FileRun → ℕ → Id → Reader FileRun
with_id before last left x = field byte (only few_parents) ParentCount >>= with_count before last left x

abbrev of_agent : List Event → Option FileRun → ℕ → List ℕ → Reader FileRun
of_agent before last left agent = field number (id_from before agent) IdTwice >>= with_id before last left

pub run_takes : (agents : List (List ℕ)) (before : List Event) (last : Option FileRun) (left : ℕ) (bytes : List ℕ) (y : FileRun × List ℕ) → IsSetting agents before → 1 ≤ left → AreBytes bytes → read_run_record agents before last left bytes ≡ Ok y → IsRunRead agents before last left bytes y.0 y.1
unfolding read_run_record
run_takes agents before last left bytes y s some fits e =
    let g0 = go_ok (field number (slice_get (open_agents agents before)) AgentNumber bytes) (of_agent before last left) y e in
    let agent = g0.0.0 in
    let f0 = field_ok number (slice_get (open_agents agents before)) AgentNumber bytes g0.0 g0.1 in
    let there = get-take (suc (length (agents_of before))) agents f0.0 agent f0.2 in
    let t0 = number_takes bytes (f0.0, g0.0.1) fits f0.1 in
    let g1 = go_ok (field number (id_from before agent) IdTwice g0.0.1) (with_id before last left) y g0.2 in
    let f1 = field_ok number (id_from before agent) IdTwice g0.0.1 g1.0 g1.1 in
    let x : Id = record { agent = agent; seq = f1.0 } in
    let o1 = only_ok (new_id before) x g1.0.0 f1.2 in
    let t1 = number_takes g0.0.1 (f1.0, g1.0.1) t0.0.fits f1.1 in
    let g2 = go_ok (field byte (only few_parents) ParentCount g1.0.1) (with_count before last left g1.0.0) y g1.2 in
    let o2 = tested_ok byte few_parents ParentCount g1.0.1 g2.0 g2.1 in
    let t2 = byte_takes g1.0.1 g2.0 t1.0.fits o2.0 in
    let g3 = go_ok (read_parents (ids_of before) [] g2.0.0 g2.0.1) (with_parents before last left g1.0.0) y g2.2 in
    let ps = parents_take g2.0.0 (ids_of before) [] g2.0.1 g3.0 t2.fits s.apart s.sound refl g3.1 in
    let g4 = go_ok (read_run_ops before last left g1.0.0 g3.0.0 g3.0.1) (λ ops. done (record { id = g1.0.0; parents = g3.0.0; ops = ops })) y g3.2 in
    let new : is_held before x ≡ false = ap (is_held before) o1.1 ∙ not-true _ o1.0 in
    let asked : read_run_ops before last left x ps.more g3.0.1 ≡ Ok g4.0 =
    ap (λ z. read_run_ops before last left z ps.more g3.0.1) o1.1 ∙ ap (λ p. read_run_ops before last left g1.0.0 p g3.0.1) (sym ps.joined) ∙ g4.1 in
    let t4 = ops_take before last left x ps.more g3.0.1 g4.0 some t1.1 (and_from _ _ (not_from_false _ new) refl) ps.takes.fits asked in
    let made : FileRun = record { id = x; parents = ps.more; ops = g4.0.0 } in
    let is_made : (made, g4.0.1) ≡ y = ap (λ z. (record { id = z; parents = ps.more; ops = g4.0.0 }, g4.0.1)) o1.1 ∙ ap (λ p. (record { id = g1.0.0; parents = p; ops = g4.0.0 }, g4.0.1)) (sym ps.joined) ∙ cc in
    let end = Takes-then g2.0.1 (flat_map (parent_bytes (ids_of before)) ps.more) g3.0.1 (run_ops_bytes g4.0.0) g4.0.1 ps.takes t4.0 in
    let count : Takes g1.0.1 (length ps.more ∷ []) g2.0.1 = subst (λ n. Takes g1.0.1 (n ∷ []) g2.0.1) (sym ps.count) t2 in
    let later = Takes-then g1.0.1 (length ps.more ∷ []) g2.0.1 (flat_map (parent_bytes (ids_of before)) ps.more ++ run_ops_bytes g4.0.0) g4.0.1 count end in
    let behind = Takes-then g0.0.1 (four_bytes f1.0) g1.0.1 (length ps.more ∷ flat_map (parent_bytes (ids_of before)) ps.more ++ run_ops_bytes g4.0.0) g4.0.1 t1.0 later in
    let first : Takes bytes (four_bytes (position_or_len (name_eq agent) agents)) g0.0.1 = subst (λ i. Takes bytes (four_bytes i) g0.0.1) (sym (place_of name_eq names_equal name_exact [] agents f0.0 agent s.names there)) t0.0 in
    subst (λ (p : FileRun × List ℕ). IsRunRead agents before last left bytes p.0 p.1) is_made (record {
      takes = Takes-then bytes (four_bytes (position_or_len (name_eq agent) agents)) g0.0.1 (four_bytes f1.0 ++ length ps.more ∷ flat_map (parent_bytes (ids_of before)) ps.more ++ run_ops_bytes g4.0.0) g4.0.1 first behind;
      follows = record {
        id = record { agent = get_all (λ x. is_name x ≡ true) agents f0.0 agent s.good there; seq = t1.1 };
        parents = ps.sound;
        first = record {
          new = new;
          held = ps.held;
          ascend = ap ids_ascend (sym ps.joined) ∙ ps.ascend;
          few = ap few_parents ps.count ∙ o2.1;
        };
        ops = t4.1;
      };
      place = f0.0;
      agent = f0.2;
    })

pub run_again : (agents : List (List ℕ)) (before : List Event) (last : Option FileRun) (left : ℕ) (r : FileRun) (rest : List ℕ) → RunFollows before last left r → slice_get (open_agents agents before) (position_or_len (name_eq r.id.agent) agents) ≡ Some r.id.agent → length agents < 2 ^ 32 → length (ids_of before) < 2 ^ 32 → left < 2 ^ 32 → read_run_record agents before last left (run_record_at agents before r ++ rest) ≡ Ok (r, rest)
unfolding read_run_record
run_again agents before last left r rest follows known small_agents small small_left =
    let place = position_or_len (name_eq r.id.agent) agents in
    let within = slice_get_within agents place r.id.agent (get-take (suc (length (agents_of before))) agents place r.id.agent known) in
    let ps = flat_map (parent_bytes (ids_of before)) r.parents in
    let end = run_ops_bytes r.ops ++ rest in
    let third = length r.parents ∷ ps ++ end in
    let second = four_bytes r.id.seq ++ third in
    let regrouped : run_record_at agents before r ++ rest ≡ four_bytes place ++ second = ap (λ t. four_bytes place ++ four_bytes r.id.seq ++ length r.parents ∷ t) (append_assoc ps (run_ops_bytes r.ops) rest) in
    let a : field number (slice_get (open_agents agents before)) AgentNumber (four_bytes place ++ second) ≡ Ok (r.id.agent, second) =
    field_again number (slice_get (open_agents agents before)) AgentNumber (four_bytes place ++ second) second place r.id.agent (number_again place second (omega arith)) known in
    let b : field number (id_from before r.id.agent) IdTwice second ≡ Ok (r.id, third) =
    field_again number (id_from before r.id.agent) IdTwice second third r.id.seq r.id (number_again r.id.seq third follows.id.seq) (only_again (new_id before) r.id (not_from_false _ follows.first.new)) in
    let c : field byte (only few_parents) ParentCount third ≡ Ok (length r.parents, ps ++ end) =
    tested_again byte few_parents ParentCount third (ps ++ end) (length r.parents) refl follows.first.few in
    let d : read_parents (ids_of before) [] (length r.parents) (ps ++ end) ≡ Ok (r.parents, end) = parents_again r.parents (ids_of before) [] end follows.first.held follows.first.ascend small in
    ap (read_run_record agents before last left) regrouped
    ∙ ap (λ t. go_on t (of_agent before last left)) a
    ∙ ap (λ t. go_on t (with_id before last left)) b
    ∙ ap (λ t. go_on t (with_count before last left r.id)) c
    ∙ ap (λ t. go_on t (with_parents before last left r.id)) d
    ∙ ap (λ t. go_on t (λ ops. done (record { id = r.id; parents = r.parents; ops = ops }))) (ops_again before last left r.id r.parents r.ops rest small_left follows.ops)
