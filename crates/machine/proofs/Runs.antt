-- How the loop of `agree` compares two runs of a machine.
-- Assumes nothing.
use Prim.Native.Nat.{ℕ, ◌+◌, ◌≤◌, ◌<◌}
use mathlib.Core.Path.{◌≡◌, sym, ap, ap₂, ◌∙◌}
use mathlib.Core.Bool.{Bool, true, false, ◌&&◌}
use mathlib.Core.List.{List}
use native.Mathlib.Omega.{arith}
use lib.Dec.{eqb}
use lib.ListN.{length, get_or, drop, drop_of_length-le}
use borrow.Author.Tests.{eq-eqb, ne_eqb}
use Rattle.facts.specs.Lists.{same}
use Rattle.machine.specs.Machine.{Mealy, answers}
use Rattle.machine.specs.Machine.Laws.{answers_rest, answers_none}

module _ (M : Mealy) (w : List ℕ) (i j : ℕ) where
  -- from place p on, in states s and t, the runs compare as they do from the front
  pub record Alike (s t p : ℕ) : Type 0 where
    pub inside : p ≤ length w
    pub keeps : same (answers M s (drop p w)) (answers M t (drop p w)) ≡ same (answers M i w) (answers M j w)

  module _ {s t p : ℕ} (h : Alike s t p) where
    pub alike_end : length w ≤ p → true ≡ same (answers M i w) (answers M j w)
    alike_end l = rw (drop_of_length-le w l, answers_none M s, answers_none M t) at h.keeps

    -- the answers to command p, and what follows
    abbrev rest : Bool
    rest =
        same (answers M (M.next s (get_or w p 0)) (drop (p + 1) w)) (answers M (M.next t (get_or w p 0)) (drop (p + 1) w))

    split : p < length w
        → same (answers M s (drop p w)) (answers M t (drop p w))
        ≡ (eqb (M.answer s (get_or w p 0)) (M.answer t (get_or w p 0)) && rest)
    split l = ap₂ same (answers_rest M s w p l) (answers_rest M t w p l)

    pub alike_differs : p < length w → {x y : ℕ} → x ≡ M.answer s (get_or w p 0) → y ≡ M.answer t (get_or w p 0)
        → (x ≡ y → ⊥) → false ≡ same (answers M i w) (answers M j w)
    alike_differs l xe ye d =
        sym (split l
        ∙ ap (λ (b : Bool). b && rest)
        (ne_eqb _ _ (λ (q : M.answer s (get_or w p 0) ≡ M.answer t (get_or w p 0)). d (xe ∙ q ∙ sym ye))))
        ∙ h.keeps

    pub alike_next : p < length w → {x y : ℕ} → x ≡ M.answer s (get_or w p 0) → y ≡ M.answer t (get_or w p 0) → x ≡ y
        → {s' t' : ℕ} → s' ≡ M.next s (get_or w p 0) → t' ≡ M.next t (get_or w p 0) → Alike s' t' (p + 1)
    alike_next l xe ye e se te = record {
      inside = omega arith;
      keeps = ap₂ (λ (x y : ℕ). same (answers M x (drop (p + 1) w)) (answers M y (drop (p + 1) w))) se te
          ∙ sym (split l ∙ ap (λ (b : Bool). b && rest) (eq-eqb _ _ (sym xe ∙ e ∙ ye)))
          ∙ h.keeps;
    }
