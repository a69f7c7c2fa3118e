-- Where the word stands: the first places, one pass for each command of the word, and the marks that all of them leave.
-- Assumes nothing.
use Prim.Native.Nat.{ℕ, ◌+◌, ◌≤◌, ◌<◌}
use mathlib.Core.Path.{◌≡◌, sym, ap, ◌∙◌}
use mathlib.Core.List.{List}
use mathlib.Core.Logic.{◌⊎◌, inl, inr}
use native.Mathlib.Omega.{arith}
use lib.ListN.{length, get_or, take, drop, length-take, length-drop}
use lib.Seq.{ext_get_or}
use Rattle.facts.specs.Lists.{part_at}
use Rattle.certify.specs.Recognition.{OccursAt}
use Rattle.certify.specs.Marks.{mark, marks_by, occurs_at}
use Rattle.certify.specs.Marks.Laws.{marks_by_length, marks_by_at}
use Rattle.certify.specs.Marks.Agreement.{true_occurs, occurs_fails}

-- ---- all passes
-- the sequence has the whole word's length behind p, and there the first j commands of the word
pub record Begins (w xs : List ℕ) (j p : ℕ) : Type 0 where
  pub inside : p + length w ≤ length xs
  pub agree : (i : ℕ) → i < j → get_or xs (p + i) 0 ≡ get_or w i 0

-- a mark that tells whether they stand there
abbrev pub Tells : List ℕ → List ℕ → ℕ → ℕ → ℕ → Type 0
Tells w xs j p v = ((v ≡ 1) × Begins w xs j p) ⊎ ((v ≡ 0) × (Begins w xs j p → ⊥))

-- what the loop over the word's commands keeps
pub record Written (w xs marks : List ℕ) (j : ℕ) : Type 0 where
  pub upto : j ≤ length w
  pub long : length marks ≡ length xs + 1
  pub cells : (p : ℕ) → p ≤ length xs → Tells w xs j p (get_or marks p 0)

module _ (w xs : List ℕ) where
  -- the whole word: what is written is where it stands
  whole_occurs : (p : ℕ) → Begins w xs (length w) p → OccursAt w xs p
  whole_occurs p b = record {
    inside = b.inside;
    commands = ext_get_or 0 (take (length w) (drop p xs)) w (simp (length-take, length-drop) (omega (arith, b.inside)))
        (λ i k.
        let il : i < length w = omega (arith, simp length-take at k) in
        part_at xs p (length w) i il ∙ b.agree i il);
  }

  occurs_whole : (p : ℕ) → OccursAt w xs p → Begins w xs (length w) p
  occurs_whole p h = record {
    inside = h.inside;
    agree = λ i l. sym (part_at xs p (length w) i l) ∙ ap (λ (m : List ℕ). get_or m i 0) h.commands;
  }

  told : (p v : ℕ) → Tells w xs (length w) p v → v ≡ mark (occurs_at w xs p)
  told p v h = elim h [
    | inl k ↦ k.0 ∙ sym (ap mark (true_occurs w xs p (whole_occurs p k.1)))
    | inr k ↦ k.0 ∙ ap mark (occurs_fails w xs p (λ s. k.1 (occurs_whole p s)))
  ]

  pub written_all : {marks : List ℕ} {j : ℕ} → Written w xs marks j → length w ≤ j → marks ≡ marks_by xs (occurs_at w xs)
  written_all {marks} {j} h l =
      let whole : j ≡ length w = omega (arith, h.upto) in
      ext_get_or 0 marks (marks_by xs (occurs_at w xs)) (h.long ∙ sym (marks_by_length xs (occurs_at w xs)))
      (λ q ql.
      let k : q ≤ length xs = omega (arith, h.long) in
      told q _ (rw (← whole) (h.cells q k)) ∙ sym (marks_by_at xs (occurs_at w xs) q k))
