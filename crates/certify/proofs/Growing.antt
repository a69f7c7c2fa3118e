-- More given marks: the closure, pairing and folding grow with them, and a marking of a marking is one of the first
-- marks. Assumes nothing.
use Prim.Native.Nat.{ℕ, ◌+◌}
use mathlib.Core.Path.{◌≡◌}
use mathlib.Core.List.{List}
use lib.ListN.{length, get_or}
use Rattle.machine.specs.Machine.{Mealy}
use Rattle.certify.specs.Recognition.{rule1}
use Rattle.certify.specs.Recognition.Laws.{closure_in, closure_more}
use Rattle.certify.specs.Marks.{Bits}
use Rattle.certify.specs.Folding.{Marking, Paired, same, tops, step, Folds}

-- marks of 0 and 1 are a marking of themselves
pub marking_same : {M : Mealy} {xs g : List ℕ} → length g ≡ length xs + 1 → Bits g → Marking M xs g g
marking_same l b = record { long = l; bits = b; above = λ p e. e; sound = λ p e. rule1 e }

module _ {M : Mealy} {xs g ms : List ℕ} where
  -- ---- every given mark is a mark of ms
  module _ (above : (p : ℕ) → get_or g p 0 ≡ 1 → get_or ms p 0 ≡ 1) where
    pub paired_more : {a b : ℕ} → Paired M xs g a b → Paired M xs ms a b
    paired_more (same e) = same e
    paired_more (tops ha hb e) = tops (closure_more above ha) (closure_more above hb) e
    paired_more (step p q h pl ql e ea eb) = step p q (paired_more h) pl ql e ea eb

    pub folds_more : {alt root : List ℕ} → Folds M xs g alt root → Folds M xs ms alt root
    folds_more h = record {
      links = λ v n. paired_more (h.links v n);
      roots = λ s r e. let k = h.roots s r e in (k.0, closure_more above k.1, k.2);
    }

  -- ---- every mark of ms lies in the closure of the given ones
  pub marking_flat : {ms' : List ℕ} → Marking M xs g ms → Marking M xs ms ms' → Marking M xs g ms'
  marking_flat h k = record {
    long = k.long;
    bits = k.bits;
    above = λ p e. k.above p (h.above p e);
    sound = λ p e. closure_in h.sound (k.sound p e);
  }
