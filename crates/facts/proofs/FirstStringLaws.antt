-- The theorems of the first string that an automaton accepts (specs/FirstString.antt): its equations, read backwards and
-- forwards, what is found, and when. They rest on the definition of `first_string`, so an edit of it is refused here.
use Prim.Native.Nat.{ℕ, zero, suc, ◌<◌}
use Rattle.std.specs.Prelude.{◌≡◌, refl, Bool, true, false, ◌&&◌, List, [], ◌∷◌, length}
use Rattle.std.proofs.Math.Path.{sym, ap}
use Rattle.std.proofs.Common.{◌∙◌, arith}
use Rattle.std.proofs.Math.Option.{none, some, map, mem_unique, map-eq-none_iff, map-eq-some_iff}
use Rattle.facts.specs.ByteOrder.{Before, head, tail, before_cons}
use Rattle.facts.specs.FirstOf.{Some, some_none, guard_some, guard_true}
use Rattle.facts.specs.FirstOf.{guard_false, guard_none, first_of, first_some, some_first, none_first}
use Rattle.facts.specs.FirstString.{Accepted, first_string, Step}

module _ {S : Type 0} (k : ℕ) (inside : S → Bool) (step : S → ℕ → S) (accepts : S → Bool) where
  -- ---- its two equations, read backwards and forwards
  -- a string of no element is accepted where it begins
  pub string_zero : (s : S) {t : List ℕ} → first_string k inside step accepts 0 s ≡ some t
      → ((inside s && accepts s) ≡ true) × (t ≡ [])
  unfolding first_string
  string_zero s {t} e =
      let g = guard_some (inside s && accepts s) (some []) e in
      (g.0, mem_unique g.1 refl)

  pub string_here : (s : S) → (inside s && accepts s) ≡ true → first_string k inside step accepts 0 s ≡ some []
  unfolding first_string
  string_here s e = guard_true (some []) e

  pub string_not_here : (s : S) → (inside s && accepts s) ≡ false
      → first_string k inside step accepts 0 s ≡ none
  unfolding first_string
  string_not_here s e = guard_false (some []) e

  -- what is found of m + 1 elements is such a string
  pub string_step : (m : ℕ) (s : S) {t : List ℕ} → first_string k inside step accepts (suc m) s ≡ some t
      → Step k inside step accepts m s t
  unfolding first_string
  string_step m s {t} e =
      let g =
      guard_some (inside s) (first_of k (λ c. map (◌∷◌ c) (first_string k inside step accepts m (step s c)))) e in
      let l = first_some k (λ c. map (◌∷◌ c) (first_string k inside step accepts m (step s c))) g.1 in
      let r = (map-eq-some_iff (◌∷◌ l.m) (first_string k inside step accepts m (step s l.m))).0 l.found in
      record {
        inner = g.0;
        element = l.m;
        rest = r.0;
        low = l.low;
        found = r.1;
        string = sym r.2;
        passed = λ c h. (map-eq-none_iff (◌∷◌ c) (first_string k inside step accepts m (step s c))).0 (l.passed c h);
      }

  -- an element before a string of m elements gives a string of m + 1 elements
  pub some_string : (m : ℕ) (s : S) (c : ℕ) {u : List ℕ} → inside s ≡ true → c < k
      → first_string k inside step accepts m (step s c) ≡ some u
      → Some (first_string k inside step accepts (suc m) s)
  unfolding first_string
  some_string m s c {u} i l e =
      let r =
      some_first k (λ c. map (◌∷◌ c) (first_string k inside step accepts m (step s c))) c l
      (ap (map (◌∷◌ c)) e) in
      (r.0, guard_true (first_of k (λ c. map (◌∷◌ c) (first_string k inside step accepts m (step s c)))) i ∙ r.1)

  -- where no element has a string of m elements behind it there is none of m + 1 elements
  pub none_string : (m : ℕ) (s : S) → ((c : ℕ) → c < k → first_string k inside step accepts m (step s c) ≡ none)
      → first_string k inside step accepts (suc m) s ≡ none
  unfolding first_string
  none_string m s h =
      guard_none (inside s)
      (none_first k (λ c. map (◌∷◌ c) (first_string k inside step accepts m (step s c)))
      (λ c l. ap (map (◌∷◌ c)) (h c l)))

  -- from a state inside, the first of the strings that begin with 0, 1, ..
  pub string_inside : (m : ℕ) (s : S) → inside s ≡ true
      → first_string k inside step accepts (suc m) s
      ≡ first_of k (λ c. map (◌∷◌ c) (first_string k inside step accepts m (step s c)))
  unfolding first_string
  string_inside m s i =
      guard_true (first_of k (λ c. map (◌∷◌ c) (first_string k inside step accepts m (step s c)))) i

  -- from a state that is not inside there is none
  pub string_outside : (m : ℕ) (s : S) → inside s ≡ false → first_string k inside step accepts m s ≡ none
  unfolding first_string
  string_outside zero s i = guard_false (some []) (ap (λ (b : Bool). b && accepts s) i)
  string_outside (suc m) s i =
      guard_false (first_of k (λ c. map (◌∷◌ c) (first_string k inside step accepts m (step s c)))) i

  -- ---- what is found, and when
  -- it has m elements
  pub string_length : (m : ℕ) (s : S) {t : List ℕ} → first_string k inside step accepts m s ≡ some t → length t ≡ m
  string_length zero s e = ap length (string_zero s e).1
  string_length (suc m) s e =
      let h = string_step m s e in
      ap length h.string ∙ ap suc (string_length m (step s h.element) h.found)

  -- it is accepted
  pub string_accepted : (m : ℕ) (s : S) {t : List ℕ} → first_string k inside step accepts m s ≡ some t
      → Accepted k inside step accepts s t
  string_accepted zero s {t} e = let z = string_zero s e in rw z.1 z.0
  string_accepted (suc m) s {t} e =
      let h = string_step m s e in
      rw h.string (h.inner, h.low, string_accepted m (step s h.element) h.found)

  -- where a string is accepted one of its length is found
  pub accepted_some : (u : List ℕ) (s : S) → Accepted k inside step accepts s u
      → Some (first_string k inside step accepts (length u) s)
  accepted_some [] s h = ([], string_here s h)
  accepted_some (c ∷ u) s h =
      let r = accepted_some u (step s c) h.2 in
      some_string (length u) s c h.0 h.1 r.1

  -- none of its length that is accepted comes before it
  pub string_first : (m : ℕ) (s : S) {t : List ℕ} → first_string k inside step accepts m s ≡ some t
      → (u : List ℕ) → Accepted k inside step accepts s u
      → length u ≡ m → Before u t → ⊥
  string_first zero s {t} e [] h l f = omega (arith, f.inside)
  string_first zero s {t} e (c ∷ u) h l f = omega arith
  string_first (suc m) s {t} e [] h l f = omega arith
  string_first (suc m) s {t} e (c ∷ u) h l f =
      let w = string_step m s e in
      let um : length u ≡ m = omega arith in
      elim (before_cons c w.element u w.rest (rw w.string at f)) [
        | head x ↦ some_none (accepted_some u (step s c) h.2).1 (rw um (w.passed c x))
        | tail x y ↦ string_first m (step s w.element) w.found u (rw (← x) h.2) um y
      ]
