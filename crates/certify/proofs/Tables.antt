-- The tables of a sweep: chains of alternatives and representatives of states, and what going on from place t leaves
-- of them. Assumes nothing.
use Prim.Native.Nat.{ℕ, ◌+◌, ◌-◌, ◌≤◌, ◌<◌}
use mathlib.Core.Path.{◌≡◌, refl, sym, ap, ◌∙◌}
use mathlib.Core.List.{List}
use mathlib.Core.Logic.{inl, inr}
use native.Mathlib.Omega.{arith}
use lib.ListN.{length, get_or, length-set}
use lib.Seq.{get_or-set_other}
use Rattle.facts.specs.Numbers.{bit_one, equal_or_not}
use Rattle.facts.specs.Lists.{set_cell}
use Rattle.machine.specs.Limits.{most_sequence}
use Rattle.machine.specs.Machine.{Mealy, state_at}
use Rattle.certify.specs.Folding.{From, Marking, Paired, same, tops, step, Past, byte_states}
use Rattle.certify.specs.Folding.{Rooted, Advanced, found, added, Folds}
use Rattle.certify.specs.Sweep.{NextRepresented}
use Rattle.certify.proofs.Alternatives.{below, past_upto}
use Rattle.certify.proofs.Paired.{paired_sym, paired_trans, paired_past}

-- ---- the tables grow
pub roots_grow : {root root' : List ℕ} {s t r : ℕ} → Rooted root s t root' r → (x : ℕ) → (get_or root x 0 ≡ 0 → ⊥)
    → get_or root' x 0 ≡ get_or root x 0
roots_grow {root} {root'} {s} {t} (Rooted.first z re e) x n =
    ap (λ (l : List ℕ). get_or l x 0) re
    ∙ get_or-set_other root s x (t + 1) 0 (λ q. n (ap (λ (i : ℕ). get_or root i 0) q ∙ z))
roots_grow (Rooted.again e re) x n = ap (λ (l : List ℕ). get_or l x 0) re

pub links_grow : {xs alt alt' : List ℕ} {r t cur : ℕ} → Advanced xs alt r t alt' cur → (x : ℕ) → (get_or alt x 0 ≡ 0 → ⊥)
    → get_or alt' x 0 ≡ get_or alt x 0
links_grow (found v k e ae ce) x n = ap (λ (l : List ℕ). get_or l x 0) ae
links_grow {xs} {alt} {alt'} {r} {t} (added v k o z ae ce) x n =
    ap (λ (l : List ℕ). get_or l x 0) ae ∙ get_or-set_other alt v x t 0 (λ q. n (ap (λ (i : ℕ). get_or alt i 0) q ∙ z))

module _ (M : Mealy) (xs given : List ℕ) where
  -- ---- each alternative is paired with the next, a later place below t
  pub record Linked (alt : List ℕ) (t : ℕ) : Type 0 where
    pub long : length alt ≡ most_sequence
    pub links : (v : ℕ) → (get_or alt v 0 ≡ 0 → ⊥)
        → (v < get_or alt v 0) × (get_or alt v 0 < t) × (Paired M xs given v (get_or alt v 0))

  pub linked_more : {alt : List ℕ} {t : ℕ} → Linked alt t → Linked alt (t + 1)
  linked_more h = record { long = h.long; links = λ u n. let l = h.links u n in (l.0, omega (arith, l.1), l.2) }

  pub links_upto : {alt : List ℕ} {t : ℕ} → Linked alt t → (v : ℕ) → get_or alt v 0 ≤ t
  links_upto {alt} h v = elim (equal_or_not (get_or alt v 0) 0) [
    | inl e ↦ omega arith
    | inr n ↦ omega (arith, (h.links v n).1)
  ]

  pub past_low : {alt : List ℕ} {t : ℕ} → Linked alt t → {c r v : ℕ} → Past xs alt c r v → r ≤ t → v ≤ t
  past_low h = past_upto (links_upto h)

  -- ---- the representative of a state is a place of it below t, in the closure
  pub record Topped (root : List ℕ) (t : ℕ) : Type 0 where
    pub long : length root ≡ byte_states
    pub tops : (s r : ℕ) → get_or root s 0 ≡ r + 1 → (r < t) × (From M xs given r) × (state_at M xs r ≡ s)

  pub topped_more : {root : List ℕ} {t : ℕ} → Topped root t → Topped root (t + 1)
  topped_more h = record { long = h.long; tops = λ x y d. let l = h.tops x y d in (omega (arith, l.0), l.1, l.2) }

  pub roots_upto : {root : List ℕ} {t : ℕ} → Topped root t → (x : ℕ) → get_or root x 0 ≤ t
  roots_upto {root} h x = elim (equal_or_not (get_or root x 0) 0) [
    | inl e ↦ omega arith
    | inr n ↦ omega (arith, (h.tops x (get_or root x 0 - 1) (omega arith)).0)
  ]

  -- ---- both fold places
  pub folding : {alt root : List ℕ} {t : ℕ} → t ≤ length xs → Linked alt t → Topped root t → Folds M xs given alt root
  folding l h k = record {
    links = λ v n. (h.links v n).2;
    roots = λ s r e. let q = k.tops s r e in (omega (arith, q.0), q.1, q.2);
  }

  -- ---- going on from t
  -- the tables up to t, and the place that the sweep comes to t + 1 from
  pub record Gone (alt root : List ℕ) (t cur : ℕ) : Type 0 where
    pub linked : Linked alt (t + 1)
    pub topped : Topped root (t + 1)
    pub low : cur ≤ t + 1
    pub pair : Paired M xs given cur (t + 1)

  module _ {alt root : List ℕ} {t : ℕ} (tl : t < length xs) (few : length xs ≤ most_sequence) (h : Linked alt t) where
    -- from a representative r of t
    advanced : {alt' : List ℕ} {r cur : ℕ} → Topped root (t + 1) → r ≤ t → Paired M xs given r t
        → Advanced xs alt r t alt' cur → Gone alt' root t cur
    advanced {alt'} {r} {cur} g rl pr (found v k e ae ce) =
        let vl = past_low h k rl in
        let pv = paired_trans (paired_sym (paired_past (λ u n. (h.links u n).2) k)) pr in
        record {
          linked = rw ae (linked_more h);
          topped = g;
          low = omega arith;
          pair = step v t pv (omega arith) tl e ce refl;
        }
    advanced {alt'} {r} {cur} g rl pr (added v k o z ae ce) =
        let vt = below xs v t (past_low h k rl) o in
        let pv = paired_trans (paired_sym (paired_past (λ u n. (h.links u n).2) k)) pr in
        let inside : v < length alt = omega (arith, h.long) in
        record {
          linked = rw ae (record {
            long = length-set alt v t ∙ h.long;
            links =
                set_cell (λ u x. (x ≡ 0 → ⊥) → (u < x) × (x < t + 1) × (Paired M xs given u x)) alt v t inside
                (λ u q. (linked_more h).links u) (λ n. (vt, omega arith, pv));
          });
          topped = g;
          low = omega arith;
          pair = same ce;
        }

  -- the representative of the state of a place t in the closure
  pub record Represents (root : List ℕ) (t r : ℕ) : Type 0 where
    pub topped : Topped root (t + 1)
    pub low : r ≤ t
    pub pair : Paired M xs given r t

  rooted : {root root' : List ℕ} {s t r : ℕ} → Topped root t → s < byte_states → s ≡ state_at M xs t → From M xs given t
      → Rooted root s t root' r → Represents root' t r
  rooted {root} {root'} {s} {t} k sl se ft (Rooted.first z re e) =
      let inside : s < length root = omega (arith, k.long) in
      record {
        topped = rw re (record {
          long = length-set root s (t + 1) ∙ k.long;
          tops =
              set_cell (λ x z. (y : ℕ) → z ≡ y + 1 → (y < t + 1) × (From M xs given y) × (state_at M xs y ≡ x)) root s
              (t + 1) inside (λ x q. (topped_more k).tops x)
              (λ y d. let yt : y ≡ t = omega arith in rw yt (omega arith, ft, sym se));
        });
        low = omega arith;
        pair = same e;
      }
  rooted {root} {root'} {s} {t} {r} k sl se ft (Rooted.again e re) =
      let l = k.tops s r e in
      record { topped = rw re (topped_more k); low = omega (arith, l.0); pair = tops l.1 ft (l.2 ∙ se) }

  pub gone : {ms alt root alt' root' : List ℕ} {s t cur cur' : ℕ} → t < length xs → length xs ≤ most_sequence
      → Marking M xs given ms → Linked alt t → Topped root t → s < byte_states → s ≡ state_at M xs t → cur ≤ t
      → Paired M xs given cur t → NextRepresented xs ms alt root s t cur alt' root' cur' → Gone alt' root' t cur'
  gone tl few g h k sl se cl pc (NextRepresented.unmarked z re a) = rw re (advanced tl few h (topped_more k) cl pc a)
  gone tl few g h k sl se cl pc (NextRepresented.between n n' ae re ce) =
      rw (ae, re) (record { linked = linked_more h; topped = topped_more k; low = omega arith; pair = same ce })
  gone {ms} {alt} {root} {alt'} {root'} {s} {t} tl few g h k sl se cl pc (NextRepresented.marked n z r o a) =
      let ft = g.sound t (bit_one (g.bits t) n) in
      let q = rooted k sl se ft o in
      advanced tl few h q.topped q.low q.pair a
