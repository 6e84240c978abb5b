-- Chains as their tables tell them.
use Rattle.std.proofs.Common.{◌≡◌, ℕ, ◌+◌, ◌<◌, ◌≤◌, Bool, nat_eq, cond, List, length, set, Some, None, refl, sym, ap, ◌∙◌, subst, arith}
use Rattle.std.proofs.Math.ListN.{length-set}
use Rattle.std.proofs.lemmas.Bool.{false_from_ne_true, eq-eqb, eqb-true}
use Rattle.std.proofs.lemmas.List.{get_or-set_same, get_or-set_other, get_or_past}
use Rattle.std.proofs.lemmas.Option.{same_Some}
use Rattle.fugue_place.specs.declared.chains.Chains.{Chains}
use Rattle.fugue_place.specs.Chains.{entry_at, other_than, follower, AreChains, AreAligned, IsChains, IsLedBy, IsSame, IsLone, KeepsLinks, IsOuterRenumbered, IsInnerRenumbered}
use Rattle.fugue_place.proofs.ChainLaws.{IsAdded, inner_led, outer_led, outer_stays, lone_led, none_renumbered, chains_stay}

-- LINKS
-- a place that is linked to itself is followed by none, and any other by what it is linked to
pub other_self : (k : ℕ) → other_than k k ≡ None
other_self k = ap (λ (b : Bool). cond b None (Some k)) (eq-eqb k k refl)

pub other_apart : (k j : ℕ) → (j ≡ k → ⊥) → other_than k j ≡ Some j
other_apart k j apart = ap (λ (b : Bool). cond b None (Some j)) (false_from_ne_true (nat_eq j k) (λ e. apart (eqb-true j k e)))

-- the tables, written another way
same_tables : (n m : ℕ) (outer more_outer inner more_inner : List ℕ) (numbers more_numbers ends more_ends : List ℕ) → m ≡ n → more_outer ≡ outer → more_inner ≡ inner → more_numbers ≡ numbers → more_ends ≡ ends
    → AreChains n (follower outer) (follower inner) (entry_at numbers) (entry_at ends) → AreChains m (follower more_outer) (follower more_inner) (entry_at more_numbers) (entry_at more_ends)
same_tables n m outer more_outer inner more_inner numbers more_numbers ends more_ends count o i g e chains =
    subst (λ (x : ℕ). AreChains x (follower more_outer) (follower more_inner) (entry_at more_numbers) (entry_at more_ends)) (sym count)
    (subst (λ (xs : List ℕ). AreChains n (follower xs) (follower more_inner) (entry_at more_numbers) (entry_at more_ends)) (sym o)
    (subst (λ (xs : List ℕ). AreChains n (follower outer) (follower xs) (entry_at more_numbers) (entry_at more_ends)) (sym i)
    (subst (λ (xs : List ℕ). AreChains n (follower outer) (follower inner) (entry_at xs) (entry_at more_ends)) (sym g)
    (subst (λ (xs : List ℕ). AreChains n (follower outer) (follower inner) (entry_at numbers) (entry_at xs)) (sym e) chains))))

-- A PLACE THAT IS LED ON
module _ (c : Chains) (at n : ℕ) (lone : IsLone c at n) where
  abbrev led : List ℕ
  led = set c.outer.items at n

  at_within : at < length c.outer.items
  at_within = let low : at < n = lone.early in let count = lone.outer in omega arith

  added : IsAdded n (follower c.outer.items) (follower c.inner.items) (entry_at c.numbers.items) (entry_at c.ends.items) lone.chains at lone.early (follower led)
  added = record {
    leads = ap (other_than at) (get_or-set_same c.outer.items at n at at_within) ∙ other_apart at n (λ same. let low : at < n = lone.early in absurd (omega arith));
    last = ap (other_than n) (get_or-set_other c.outer.items at n n n (λ same. let low : at < n = lone.early in absurd (omega arith))) ∙ lone.last;
    others = λ k lt apart. ap (other_than k) (get_or-set_other c.outer.items at k n k apart);
  }

  module _ (d : Chains) (links : KeepsLinks c d) (e : Chains) (all : e.count ≡ d.count) (outer : e.outer.items ≡ set d.outer.items at n) (inner : e.inner.items ≡ d.inner.items) where
    led_outer : e.outer.items ≡ led
    led_outer = outer ∙ ap (λ (xs : List ℕ). set xs at n) links.outer

    count : e.count ≡ n + 1
    count = all ∙ links.count ∙ lone.count

    outer_count : length e.outer.items ≡ n + 1
    outer_count = ap length led_outer ∙ length-set c.outer.items at n ∙ lone.outer

    inner_count : length e.inner.items ≡ length e.outer.items
    inner_count = ap length (inner ∙ links.inner) ∙ lone.inner ∙ sym outer_count

    within : length e.outer.items ≤ e.count
    within = let m = count in let rows = outer_count in omega arith

    pub inner_moved : IsInnerRenumbered n (follower c.outer.items) (entry_at c.numbers.items) (entry_at d.numbers.items) at → e.numbers.items ≡ d.numbers.items → e.ends.items ≡ d.ends.items → IsChains e
    inner_moved renumbered numbers ends = record {
      aligned = record {
        within = within;
        inner = inner_count;
        numbers = ap length numbers ∙ links.numbers ∙ lone.numbers ∙ sym outer_count;
        ends = ap length (ends ∙ links.ends) ∙ lone.ends ∙ sym outer_count;
      };
      chains = same_tables (n + 1) e.count led e.outer.items c.inner.items e.inner.items d.numbers.items e.numbers.items c.ends.items e.ends.items count led_outer (inner ∙ links.inner) numbers (ends ∙ links.ends)
          (inner_led n (follower c.outer.items) (follower c.inner.items) (entry_at c.numbers.items) (entry_at c.ends.items) lone.chains at lone.early (follower led) added lone.behind (entry_at d.numbers.items) renumbered lone.number lone.end);
    }

    module _ (renumbered : IsOuterRenumbered n (follower c.outer.items) (entry_at c.numbers.items) (entry_at d.numbers.items) at) (number last : ℕ) (is : number ≡ entry_at d.numbers.items at) (ending : last ≡ entry_at d.ends.items number)
        (numbers : e.numbers.items ≡ set d.numbers.items n number) (ends : e.ends.items ≡ set (set d.ends.items n last) number n) where
      same : number ≡ entry_at c.numbers.items at
      same = is ∙ outer_stays n (follower c.outer.items) (follower c.inner.items) (entry_at c.numbers.items) (entry_at c.ends.items) lone.chains at lone.early (entry_at d.numbers.items) renumbered

      low : number < n
      low = subst (λ (x : ℕ). x < n) (sym same) (lone.chains.known at lone.early)

      numbers_long : length d.numbers.items ≡ n + 1
      numbers_long = links.numbers ∙ lone.numbers

      ends_long : length d.ends.items ≡ n + 1
      ends_long = ap length links.ends ∙ lone.ends

      marked_long : length (set d.ends.items n last) ≡ n + 1
      marked_long = length-set d.ends.items n last ∙ ends_long

      old_ends : (k : ℕ) → entry_at d.ends.items k ≡ entry_at c.ends.items k
      old_ends k = ap (λ (xs : List ℕ). entry_at xs k) links.ends

      pub outer_moved : IsChains e
      outer_moved = record {
        aligned = record {
          within = within;
          inner = inner_count;
          numbers = ap length numbers ∙ length-set d.numbers.items n number ∙ numbers_long ∙ sym outer_count;
          ends = ap length ends ∙ length-set (set d.ends.items n last) number n ∙ marked_long ∙ sym outer_count;
        };
        chains = same_tables (n + 1) e.count led e.outer.items c.inner.items e.inner.items (set d.numbers.items n number) e.numbers.items (set (set d.ends.items n last) number n) e.ends.items count led_outer
            (inner ∙ links.inner) numbers ends
            (outer_led n (follower c.outer.items) (follower c.inner.items) (entry_at c.numbers.items) (entry_at c.ends.items) lone.chains at lone.early (follower led) added lone.behind (entry_at d.numbers.items)
            (entry_at (set d.numbers.items n number)) (entry_at (set (set d.ends.items n last) number n)) renumbered (record {
              newest = get_or-set_same d.numbers.items n number n (let long = numbers_long in omega arith) ∙ same;
              others = λ k lt. get_or-set_other d.numbers.items n k number k (λ here. absurd (omega arith));
              tail = λ k lt moved.
                  get_or-set_other (set d.ends.items n last) number n n n (λ here. let under = low in absurd (omega arith))
                  ∙ get_or-set_same d.ends.items n last n (let long = ends_long in omega arith)
                  ∙ ending
                  ∙ old_ends number
                  ∙ ap (entry_at c.ends.items) same;
              front = ap (entry_at (set (set d.ends.items n last) number n)) (sym same) ∙ get_or-set_same (set d.ends.items n last) number n number (let long = marked_long in let under = low in omega arith);
              rest = λ k lt apart.
                  get_or-set_other (set d.ends.items n last) number k n k (λ here. apart (here ∙ same))
                  ∙ get_or-set_other d.ends.items n k last k (λ here. absurd (omega arith))
                  ∙ old_ends k;
            }));
      }

  -- behind the end of a chain, without a change to the others' numbers
  module _ (last : follower c.outer.items at ≡ None) (e : Chains) (all : e.count ≡ c.count) (outer : e.outer.items ≡ led) (inner : e.inner.items ≡ c.inner.items) (number : ℕ) (is : number ≡ entry_at c.numbers.items at)
      (numbers : e.numbers.items ≡ set c.numbers.items n number) (ends : e.ends.items ≡ set c.ends.items number n) where
    number_low : number < n
    number_low = subst (λ (x : ℕ). x < n) (sym is) (lone.chains.known at lone.early)

    long : length e.outer.items ≡ n + 1
    long = ap length outer ∙ length-set c.outer.items at n ∙ lone.outer

    pub end_led : IsChains e
    end_led = record {
      aligned = record {
        within = let m = all ∙ lone.count in let rows = long in omega arith;
        inner = ap length inner ∙ lone.inner ∙ sym long;
        numbers = ap length numbers ∙ length-set c.numbers.items n number ∙ lone.numbers ∙ sym long;
        ends = ap length ends ∙ length-set c.ends.items number n ∙ lone.ends ∙ sym long;
      };
      chains = same_tables (n + 1) e.count led e.outer.items c.inner.items e.inner.items (set c.numbers.items n number) e.numbers.items (set c.ends.items number n) e.ends.items (all ∙ lone.count) outer inner numbers ends
          (outer_led n (follower c.outer.items) (follower c.inner.items) (entry_at c.numbers.items) (entry_at c.ends.items) lone.chains at lone.early (follower led) added lone.behind (entry_at c.numbers.items)
          (entry_at (set c.numbers.items n number)) (entry_at (set c.ends.items number n))
          (none_renumbered n (follower c.outer.items) (follower c.inner.items) (entry_at c.numbers.items) (entry_at c.ends.items) lone.chains at lone.early last) (record {
            newest = get_or-set_same c.numbers.items n number n (let rows = lone.numbers in omega arith) ∙ is;
            others = λ k lt. get_or-set_other c.numbers.items n k number k (λ here. absurd (omega arith));
            tail = λ k lt moved. let low : entry_at c.numbers.items k < n = lone.chains.known k lt in absurd (omega arith);
            front = ap (entry_at (set c.ends.items number n)) (sym is) ∙ get_or-set_same c.ends.items number n number (let rows = lone.ends in let low = number_low in omega arith);
            rest = λ k lt apart. get_or-set_other c.ends.items number k n k (λ here. apart (here ∙ is));
          }));
    }

-- ROWS
-- a place without a row follows none, and none follows it
pub entry_past : (table : List ℕ) (k : ℕ) → length table ≤ k → entry_at table k ≡ k
entry_past table k le = get_or_past table k k le

pub follower_past : (links : List ℕ) (k : ℕ) → length links ≤ k → follower links k ≡ None
follower_past links k le = ap (other_than k) (entry_past links k le) ∙ other_self k

-- A PLACE THAT IS ADDED
module _ (c : Chains) (kept : IsChains c) (n : ℕ) (is : n ≡ c.count) where
  -- alone, it takes no row
  pub put_alone : (d : Chains) → d.count ≡ n + 1 → d.outer.items ≡ c.outer.items → d.inner.items ≡ c.inner.items → d.numbers.items ≡ c.numbers.items → d.ends.items ≡ c.ends.items → IsChains d
  put_alone d count outer inner numbers ends = record {
    aligned = record {
      within = let long = ap length outer in let le = kept.aligned.within in omega arith;
      inner = ap length inner ∙ kept.aligned.inner ∙ sym (ap length outer);
      numbers = ap length numbers ∙ kept.aligned.numbers ∙ sym (ap length outer);
      ends = ap length ends ∙ kept.aligned.ends ∙ sym (ap length outer);
    };
    chains = same_tables (n + 1) d.count c.outer.items d.outer.items c.inner.items d.inner.items c.numbers.items d.numbers.items c.ends.items d.ends.items count outer inner numbers ends
        (lone_led n (follower c.outer.items) (follower c.inner.items) (entry_at c.numbers.items) (entry_at c.ends.items)
        (subst (λ (m : ℕ). AreChains m (follower c.outer.items) (follower c.inner.items) (entry_at c.numbers.items) (entry_at c.ends.items)) (sym is) kept.chains)
        (follower_past c.outer.items n rows)
        (follower_past c.inner.items n (let long = kept.aligned.inner in let le = rows in omega arith))
        (entry_past c.numbers.items n (let long = kept.aligned.numbers in let le = rows in omega arith))
        (entry_past c.ends.items n (let long = kept.aligned.ends in let le = rows in omega arith)));
  }
    where
      rows : length c.outer.items ≤ n
      rows = let le = kept.aligned.within in omega arith

  module _ (at : ℕ) (low : at < n) (d : Chains) (aligned : AreAligned d) (count : d.count ≡ n + 1) (full : length d.outer.items ≡ d.count) (outer : (k : ℕ) → entry_at d.outer.items k ≡ entry_at c.outer.items k)
      (inner : (k : ℕ) → entry_at d.inner.items k ≡ entry_at c.inner.items k) (numbers : (k : ℕ) → entry_at d.numbers.items k ≡ entry_at c.numbers.items k) (ends : (k : ℕ) → entry_at d.ends.items k ≡ entry_at c.ends.items k)
      (e : Chains) (all : e.count ≡ d.count) (same_outer : e.outer.items ≡ d.outer.items) (behind : e.inner.items ≡ set d.inner.items n at) (same_numbers : e.numbers.items ≡ d.numbers.items) (same_ends : e.ends.items ≡ d.ends.items) where
    row_count : length c.outer.items ≤ n
    row_count = let le = kept.aligned.within in omega arith

    inner_long : n < length d.inner.items
    inner_long = let long = aligned.inner in omega arith

    -- behind another, it has a row
    pub put_behind : IsLone e at n
    put_behind = record {
      early = low;
      count = all ∙ count;
      outer = ap length same_outer ∙ full ∙ count;
      inner = ap length behind ∙ length-set d.inner.items n at ∙ aligned.inner ∙ full ∙ count;
      numbers = ap length same_numbers ∙ aligned.numbers ∙ full ∙ count;
      ends = ap length same_ends ∙ aligned.ends ∙ full ∙ count;
      chains = same_tables n n d.outer.items e.outer.items (set d.inner.items n at) e.inner.items d.numbers.items e.numbers.items d.ends.items e.ends.items refl same_outer behind same_numbers same_ends
          (chains_stay n (follower c.outer.items) (follower c.inner.items) (follower d.outer.items) (follower (set d.inner.items n at)) (entry_at c.numbers.items) (entry_at c.ends.items) (entry_at d.numbers.items)
          (entry_at d.ends.items) (subst (λ (m : ℕ). AreChains m (follower c.outer.items) (follower c.inner.items) (entry_at c.numbers.items) (entry_at c.ends.items)) (sym is) kept.chains)
          (λ k lt. ap (other_than k) (outer k)) (λ k lt. ap (other_than k) (get_or-set_other d.inner.items n k at k (λ here. absurd (omega arith)) ∙ inner k)) (λ k lt. numbers k) (λ k lt. ends k));
      behind = ap (λ (xs : List ℕ). follower xs n) behind ∙ ap (other_than n) (get_or-set_same d.inner.items n at n inner_long) ∙ other_apart n at (λ here. absurd (omega arith));
      last = ap (λ (xs : List ℕ). follower xs n) same_outer ∙ ap (other_than n) (outer n) ∙ follower_past c.outer.items n row_count;
      number = ap (λ (xs : List ℕ). entry_at xs n) same_numbers ∙ numbers n ∙ entry_past c.numbers.items n (let long = kept.aligned.numbers in let le = row_count in omega arith);
      end = ap (λ (xs : List ℕ). entry_at xs n) same_ends ∙ ends n ∙ entry_past c.ends.items n (let long = kept.aligned.ends in let le = row_count in omega arith);
    }

    -- and follows that one then
    pub led_behind : (f : Chains) → f.outer.items ≡ set e.outer.items at n → IsLedBy n (follower c.outer.items) (Some at) (follower f.outer.items)
    led_behind f led = record {
      last = tells n ∙ ap (other_than n) (get_or-set_other d.outer.items at n n n (λ here. absurd (omega arith)) ∙ outer n) ∙ follower_past c.outer.items n row_count;
      leads = λ k here.
          let same : at ≡ k = same_Some at k here in
          subst (λ (j : ℕ). follower f.outer.items j ≡ Some n) same (tells at ∙ ap (other_than at) (get_or-set_same d.outer.items at n at (let long = full in omega arith)) ∙ other_apart at n (λ here. absurd (omega arith)));
      others = λ k lt apart. tells k ∙ ap (other_than k) (get_or-set_other d.outer.items at k n k (λ here. apart (ap (λ (j : ℕ). Some j) (sym here))) ∙ outer k);
    }
      where
        tells : (k : ℕ) → follower f.outer.items k ≡ follower (set d.outer.items at n) k
        tells k = ap (λ (xs : List ℕ). follower xs k) (led ∙ ap (λ (xs : List ℕ). set xs at n) same_outer)

-- THE SAME TABLES
pub chains_same : (c d : Chains) → IsSame c d → IsChains c → IsChains d
chains_same c d same kept = record {
  aligned = record {
    within = let all = same.count in let long = ap length same.outer in let le = kept.aligned.within in omega arith;
    inner = ap length same.inner ∙ kept.aligned.inner ∙ sym (ap length same.outer);
    numbers = ap length same.numbers ∙ kept.aligned.numbers ∙ sym (ap length same.outer);
    ends = ap length same.ends ∙ kept.aligned.ends ∙ sym (ap length same.outer);
  };
  chains = same_tables c.count d.count c.outer.items d.outer.items c.inner.items d.inner.items c.numbers.items d.numbers.items c.ends.items d.ends.items same.count same.outer same.inner same.numbers same.ends kept.chains;
}
