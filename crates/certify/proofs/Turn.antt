-- A turn of the sweep: what holds before place t, and that its steps lead to the same before place t + 1.
-- Assumes nothing.
use Prim.Native.Nat.{ℕ, ◌+◌, ◌≤◌, ◌<◌}
use mathlib.Core.Path.{◌≡◌, refl, sym, ap, ◌∙◌}
use mathlib.Core.Bool.{Bool, true, false, true≢false}
use mathlib.Core.List.{List}
use mathlib.Core.Logic.{inl, inr}
use native.Mathlib.Omega.{arith}
use native.Mathlib.Nat.{eq-or-lt_of_le}
use lib.ListN.{length, get_or}
use lib.Seq.{get_or-set_same}
use Rattle.facts.specs.Numbers.{bit_one}
use Rattle.machine.specs.Limits.{most_entries, most_sequence}
use Rattle.machine.specs.Machine.{Mealy, state_at}
use Rattle.certify.specs.Folding.{Paired, Past, byte_states, Rooted, Advanced, found, added}
use Rattle.certify.specs.Sweep.{place_entry, Merged, Learnt, NextRepresented, SweepRequires}
use Rattle.certify.proofs.Alternatives.{past_on, below}
use Rattle.certify.proofs.Entries.{Learning, learning, learnt_still}
use Rattle.certify.proofs.Growing.{marking_flat}
use Rattle.certify.proofs.Marking.{was_zero}
use Rattle.certify.proofs.Represented.{Rep, top, Comes, from, between, comes_rep, Walked, comes_walked}
use Rattle.certify.proofs.Represented.{past_grows, rep_grows, walked_grows}
use Rattle.certify.proofs.Tables.{roots_grow, links_grow, Linked, past_low, Topped, gone}

-- nothing changed where cur and t merged: their marks are equal
pub merged_still : {M : Mealy} {xs ms ms' : List ℕ} {cur t : ℕ} {changed changed' : Bool}
    → Merged M xs ms cur t changed ms' changed' → changed' ≡ false
    → (changed ≡ false) × (ms' ≡ ms) × (get_or ms cur 0 ≡ get_or ms t 0)
merged_still (Merged.equal e me ce) f = (sym ce ∙ f, me, e)
merged_still (Merged.differ g r ce) f = absurd (true≢false (sym ce ∙ f))

-- what holds besides where nothing changed so far
pub record Still (M : Mealy) (apply : Bool) (xs given known₀ ms known alt root : List ℕ) (cur t : ℕ) : Type 0 where
  pub same_marks : ms ≡ given
  pub same_known : known ≡ known₀
  pub comes : Comes xs (state_at M xs) given alt root t cur
  pub walked : (i : ℕ) → i + 1 < t → (get_or given i 0 ≡ 1 → get_or given (i + 1) 0 ≡ 1 → ⊥)
      → Walked xs (state_at M xs) given alt root i
  pub learnt : (i : ℕ) → i < t → get_or given i 0 ≡ 1 → get_or given (i + 1) 0 ≡ 1
      → get_or known₀ (place_entry M xs i) 0 ≡ 0 → ⊥
  pub applied : (i : ℕ) → i < t → apply ≡ true → get_or given i 0 ≡ 1 → (get_or known₀ (place_entry M xs i) 0 ≡ 0 → ⊥)
      → get_or given (i + 1) 0 ≡ 0 → ⊥

-- what holds before place t
pub record Head (M : Mealy) (apply : Bool) (xs given known₀ ms known alt root : List ℕ) (cur t s : ℕ)
    (changed : Bool) : Type 0 where
  pub place : t ≤ length xs
  pub state : s ≡ state_at M xs t
  pub learning : Learning M xs given known₀ ms known changed
  pub linked : Linked M xs given alt t
  pub topped : Topped M xs given root t
  pub low_cur : cur ≤ t
  pub pair : Paired M xs given cur t
  pub still : changed ≡ false → Still M apply xs given known₀ ms known alt root cur t

module _ {M : Mealy} {apply : Bool} {xs given known₀ : List ℕ} (required : SweepRequires M apply xs given known₀) where
  pub merged_learning : {ms ms' known : List ℕ} {cur t : ℕ} {changed changed' : Bool}
      → Learning M xs given known₀ ms known changed → Merged M xs ms cur t changed ms' changed'
      → Learning M xs given known₀ ms' known changed'
  merged_learning h (Merged.equal e me ce) = rw (me, ce) h
  merged_learning {ms} h (Merged.differ g r ce) = record {
    marking = marking_flat h.marking g;
    table = h.table;
    knows = h.knows;
    keeps = h.keeps;
    known_bits = h.known_bits;
    risen = λ q.
        inl (record {
          place = r.place;
          was = was_zero given ms required.close_requires.bits h.marking.above r.place r.was;
          is = r.is;
        });
  }

  -- ---- going on where nothing changed
  -- one place further along a chain
  comes_next : {alt alt' root : List ℕ} {r t cur : ℕ} → Linked M xs given alt t → r ≤ t
      → Rep xs (state_at M xs) given alt' root t r → t < most_sequence → Advanced xs alt r t alt' cur
      → Comes xs (state_at M xs) given alt' root (t + 1) cur
  comes_next {alt} {alt'} {root} {r} {t} h rl g tl (found v k e ae ce) =
      from t r v g (past_grows (links_grow (found v k e ae ce)) k) e refl ce
  comes_next {alt} {alt'} {root} {r} {t} h rl g tl (added v k o z ae ce) =
      let vt = below xs v t (past_low M xs given h k rl) o in
      let cell : get_or alt' v 0 ≡ t = rw (ae, get_or-set_same alt v t 0 (omega (arith, h.long))) in
      let k' : Past xs alt' (get_or xs t 0) r v = past_grows (links_grow (added v k o z ae ce)) k in
      let full : get_or alt' v 0 ≡ 0 → ⊥ = λ y. omega arith in
      let there : Past xs alt' (get_or xs t 0) r t = rw cell at (past_on k' o full) in
      from t r t g there refl refl ce

  still_comes : {ms alt root alt' root' : List ℕ} {s t cur cur' : ℕ} → ms ≡ given → t < length xs → s < byte_states
      → s ≡ state_at M xs t → Linked M xs given alt t → Topped M xs given root t → cur ≤ t
      → Comes xs (state_at M xs) given alt root t cur → NextRepresented xs ms alt root s t cur alt' root' cur'
      → Comes xs (state_at M xs) given alt' root' (t + 1) cur'
  still_comes {ms} {alt} {root} {alt'} {root'} {s} {t} me tl sl se h k cl c (NextRepresented.unmarked z re a) =
      let g = comes_rep xs (state_at M xs) given alt root (ap (λ (m : List ℕ). get_or m t 0) (sym me) ∙ z) c in
      comes_next h cl (rw re (rep_grows xs (state_at M xs) given alt root alt' root (links_grow a) (λ x n. refl) g))
      (omega (arith, required.close_requires.commands.few)) a
  still_comes {ms} {alt} {root} {alt'} {root'} {s} {t} me tl sl se h k cl c (NextRepresented.between n n' ae re ce) =
      between t (bit_one (required.close_requires.bits t) (λ y. n (ap (λ (m : List ℕ). get_or m t 0) me ∙ y)))
      (bit_one (required.close_requires.bits (t + 1)) (λ y. n' (ap (λ (m : List ℕ). get_or m (t + 1) 0) me ∙ y))) refl
  still_comes {ms} {alt} {root} {alt'} {root'} {s} {t} me tl sl se h k cl c (NextRepresented.marked n z r o a) =
      let mt = bit_one (required.close_requires.bits t) (λ y. n (ap (λ (m : List ℕ). get_or m t 0) me ∙ y)) in
      comes_next h (rooted_low o) (top mt (rooted_cell o)) (omega (arith, required.close_requires.commands.few)) a
    where
      rooted_low : {r : ℕ} → Rooted root s t root' r → r ≤ t
      rooted_low (Rooted.first y re e) = omega arith
      rooted_low (Rooted.again e re) = omega (arith, (k.tops s _ e).0)

      rooted_cell : {r : ℕ} → Rooted root s t root' r → get_or root' (state_at M xs t) 0 ≡ r + 1
      rooted_cell (Rooted.first y re e) =
          rw (re, ← se, get_or-set_same root s (t + 1) 0 (omega (arith, k.long)), e)
      rooted_cell (Rooted.again e re) = rw (re, ← se) e

  -- the tables grow as the sweep goes on
  represented_roots : {ms alt root alt' root' : List ℕ} {s t cur cur' : ℕ}
      → NextRepresented xs ms alt root s t cur alt' root' cur' → (x : ℕ) → (get_or root x 0 ≡ 0 → ⊥)
      → get_or root' x 0 ≡ get_or root x 0
  represented_roots (NextRepresented.unmarked z re a) x n = ap (λ (m : List ℕ). get_or m x 0) re
  represented_roots (NextRepresented.between m m' ae re ce) x n = ap (λ (m : List ℕ). get_or m x 0) re
  represented_roots (NextRepresented.marked m z r o a) x n = roots_grow o x n

  represented_links : {ms alt root alt' root' : List ℕ} {s t cur cur' : ℕ}
      → NextRepresented xs ms alt root s t cur alt' root' cur' → (x : ℕ) → (get_or alt x 0 ≡ 0 → ⊥)
      → get_or alt' x 0 ≡ get_or alt x 0
  represented_links (NextRepresented.unmarked z re a) x n = links_grow a x n
  represented_links (NextRepresented.between m m' ae re ce) x n = ap (λ (m : List ℕ). get_or m x 0) ae
  represented_links (NextRepresented.marked m z r o a) x n = links_grow a x n

  -- every place up to t that is not between two marked ones has been walked to
  pub walked_here : {ms known alt root : List ℕ} {cur t : ℕ} → Still M apply xs given known₀ ms known alt root cur t
      → get_or given cur 0 ≡ get_or given t 0 → (i : ℕ) → i + 1 < t + 1
      → (get_or given i 0 ≡ 1 → get_or given (i + 1) 0 ≡ 1 → ⊥) → Walked xs (state_at M xs) given alt root i
  walked_here {ms} {known} {alt} {root} {cur} {t} h m i l n = elim (eq-or-lt_of_le {n = i + 1} {m = t} (omega arith)) [
    | inl e ↦ comes_walked xs (state_at M xs) given alt root h.comes m i (sym e) (λ a b. n a (rw e b))
    | inr k ↦ h.walked i k n
  ]

  module _ {ms known alt root ms₁ ms₂ known₂ alt' root' : List ℕ} {cur t s e cur' : ℕ}
      {changed changed₁ changed₂ : Bool} (h : Head M apply xs given known₀ ms known alt root cur t s changed)
      (tl : t < length xs) (sl : s < byte_states) (at : place_entry M xs t ≡ e)
      (merged : Merged M xs ms cur t changed ms₁ changed₁)
      (learn : Learnt apply ms₁ known e t changed₁ ms₂ known₂ changed₂)
      (on : NextRepresented xs ms₂ alt root s t cur alt' root' cur') where
    turn_still : changed₂ ≡ false → Still M apply xs given known₀ ms₂ known₂ alt' root' cur' (t + 1)
    turn_still f =
        let u = learnt_still learn f in
        let m = merged_still merged u.before in
        let g = h.still m.0 in
        let all : ms₂ ≡ given = u.same_marks ∙ m.1 ∙ g.same_marks in
        let one : ms₁ ≡ given = m.1 ∙ g.same_marks in
        let agree : get_or given cur 0 ≡ get_or given t 0 = rw g.same_marks at m.2 in
        record {
          same_marks = all;
          same_known = u.same_known ∙ g.same_known;
          comes = still_comes all tl sl h.state h.linked h.topped h.low_cur g.comes on;
          walked = λ i il n.
              walked_grows xs (state_at M xs) given alt root alt' root' (represented_links on) (represented_roots on)
              (walked_here g agree i il n);
          learnt = λ i il a b z. elim (eq-or-lt_of_le {n = i} {m = t} (omega arith)) [
            | inl q ↦ u.learnt (rw (one, ← q) a) (rw (one, ← q) b) (rw (g.same_known, ← at, ← q) z)
            | inr k ↦ g.learnt i k a b z
          ];
          applied = λ i il o a n z. elim (eq-or-lt_of_le {n = i} {m = t} (omega arith)) [
            | inl q ↦ u.applied o (rw (one, ← q) a) (λ y. n (rw (g.same_known, ← at, ← q) at y)) (rw (one, ← q) z)
            | inr k ↦ g.applied i k o a n z
          ];
        }

    pub turn : (el : e < most_entries) {s' : ℕ} → s' ≡ state_at M xs (t + 1)
        → Head M apply xs given known₀ ms₂ known₂ alt' root' cur' (t + 1) s' changed₂
    turn el se =
        let g = learning required tl el at (merged_learning h.learning merged) learn in
        let q =
        gone M xs given tl required.close_requires.commands.few g.marking h.linked h.topped sl h.state
        h.low_cur h.pair on in
        record {
          place = omega arith;
          state = se;
          learning = g;
          linked = q.linked;
          topped = q.topped;
          low_cur = q.low;
          pair = q.pair;
          still = turn_still;
        }
