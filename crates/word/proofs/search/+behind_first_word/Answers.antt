use Rattle.std.proofs.Common.{Some, None, ◌≡◌, Bool, true, false, refl, ◌∙◌, sym, arith, rules}
use Rattle.std.specs.Bool.{then_some}
use Rattle.word.proofs.Descent.{last_told, last_alike, behind_met, behind_more, first_found, none_found, on_long}
use Rattle.word.proofs.search.+behind_first_word.Goals as goal
use Rattle.word.proofs.search.+behind_first_word.Goals.{behind-then-length-eq1+in_ok-word}
use Rattle.word.proofs.search.+behind_first_word.Goals.{behind-else-length-eq1+in_ok-move_on+in_ok-word-2}

some_then : {A : Type 0} (b : Bool) (x y : A) → Some y ≡ then_some b x → (b ≡ true) × (y ≡ x)
some_then true x y e = (refl, cc)
some_then false x y e = cc

none_then : {A : Type 0} (b : Bool) (x : A) → None ≡ then_some b x → b ≡ false
none_then true x e = cc
none_then false x e = refl

pub behind-returns-in_err-word : goal.behind-returns-in_err-word
behind-returns-in_err-word t c =
    rw (c.from_residual.ensures, c.if-length-eq1.true)
    (last_alike _ _ _ _ c.args.c (sym c.told_apart.ensures ∙ none_then _ _ c.in_err-word.ensures))

pub behind-returns-in_err-move_on : goal.behind-returns-in_err-move_on
behind-returns-in_err-move_on t c =
    rw c.from_residual-in_err-move_on.ensures (behind_met _ _ _ _ c.args.c c.args.length c.in_err-move_on.ensures)

pub behind-insert-requires : goal.behind-insert-requires
behind-insert-requires t c =
    elim c.if-length-eq1.branch [
      | behind-then-length-eq1+in_ok-word w ↦
          let e = (some_then _ _ _ w.in_ok-word.ensures).1 in
          (search rules, (omega arith, rw (w.word-is, e, w.new.ensures) (omega arith)))
      | behind-else-length-eq1+in_ok-move_on+in_ok-word-2 w ↦
          let e = on_long _ _ _ _ _ w.in_ok-word-2.ensures in
          (search rules, (omega arith, rw (w.word-is, e) (omega (arith, c.requires.few))))
    ]

pub behind-returns : goal.behind-returns
behind-returns t c =
    elim c.if-length-eq1.branch [
      | behind-then-length-eq1+in_ok-word w ↦
          let e = some_then _ _ _ w.in_ok-word.ensures in
          rw (c.insert.ensures.items, w.word-is, e.1, w.new.ensures, w.if-length-eq1.true)
          (last_told _ _ _ _ c.args.c (sym w.told_apart.ensures ∙ e.0))
      | behind-else-length-eq1+in_ok-move_on+in_ok-word-2 w ↦
          let left = w.deref.ensures.0 ∙ w.in_ok-move_on.ensures.0 in
          rw (c.insert.ensures.items, w.word-is)
          (behind_more _ _ _ _ c.args.c c.args.length left w.in_ok-word-2.ensures)
    ]

pub first_word-returns-in-Some : goal.first_word-returns-in-Some
first_word-returns-in-Some t c =
    first_found _ _ _ _ c.requires.behind.some c.requires.apart c.loop-c-test.true c.loop-c.invariant
    c.in-Some.ensures

pub first_word-returns : goal.first_word-returns
first_word-returns t c =
    none_found _ _ _ _ c.requires.behind.some c.requires.apart
    (λ x l. c.loop-c.invariant x (omega (arith, c.loop-c-test.false)))
