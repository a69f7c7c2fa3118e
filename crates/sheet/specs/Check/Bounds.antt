-- What holds of number and place wherever a check refuses, and how it passes on to the checks that are made of it. The
-- capture rig packs both into one number, so every service needs bounds on them.
use Rattle.std.specs.Prelude.{ℕ, ◌<◌, ◌≡◌, refl, Bool, true, List, [], ◌∷◌, map}
use Rattle.std.proofs.Common.{sym, ◌∙◌, inl, inr}
use Rattle.sheet.specs.Check.{refusal◌with◌if◌, ◌else◌, first_cause, first, Check, Clear, Refused}
use Rattle.sheet.specs.Check.Laws.{clear_refused, either_refused, cause_none, cause_cons, first_present}
use Rattle.sheet.specs.Check.Laws.{present_test}

-- P holds of number and place where the check refuses
abbrev pub WhereRefused : (ℕ → ℕ → Type 0) → Check → Type 0
WhereRefused P c = (n p : ℕ) → c ≡ Refused n p → P n p

module _ (P : ℕ → ℕ → Type 0) where
  pub place_clear : WhereRefused P Clear
  place_clear n p e = clear_refused refl e

  -- the same of an equal check
  pub place_of : {c d : Check} → c ≡ d → WhereRefused P d → WhereRefused P c
  place_of q h n p e = h n p (sym q ∙ e)

  -- one cause: its number and place, where its test holds
  pub place_cause : (n p : ℕ) (t : Bool) → (t ≡ true → P n p) → WhereRefused P (refusal n with p if t)
  place_cause n p t h m q e = let s = present_test n p t e in rw (s.1.0, s.1.1) (h s.0)

  -- two checks in a row: the second counts only where the first is clear
  pub place_else : (c d : Check) → WhereRefused P c → (c ≡ Clear → WhereRefused P d) → WhereRefused P (c else d)
  place_else c d h k n p e = elim (either_refused c d e) [ inl q ↦ h n p q | inr q ↦ k q.0 n p q.1 ]

  -- a list of causes
  pub place_cons : (c : Check) (cs : List Check) → WhereRefused P c → (c ≡ Clear → WhereRefused P (first_cause cs))
      → WhereRefused P (first_cause (c ∷ cs))
  place_cons c cs h k = place_of (cause_cons c cs) (place_else c (first_cause cs) h k)

  pub place_map : {A : Type 0} (f : A → Check) (xs : List A) → ((x : A) → WhereRefused P (f x))
      → WhereRefused P (first_cause (map f xs))
  place_map f [] h = place_of cause_none place_clear
  place_map f (x ∷ xs) h = place_cons (f x) (map f xs) (h x) (λ q. place_map f xs h)

  -- the first present of a row of causes
  pub place_first : (n : ℕ) (f : ℕ → Check) → ((i : ℕ) → i < n → WhereRefused P (f i)) → WhereRefused P (first n f)
  place_first n f h m p e = let q = first_present n f e in h q.place q.inside m p q.here
