-- From the checks and the word as it is stored to what start promises.
-- Assumes nothing.
use Prim.Native.Nat.{ℕ, ◌+◌, ◌≤◌, ◌<◌}
use mathlib.Core.Path.{◌≡◌, refl, sym, ap, ap₂, ◌∙◌}
use mathlib.Core.Logic.{inl, inr}
use mathlib.Core.List.{List, []}
use native.Mathlib.Omega.{arith}
use native.Mathlib.Nat.{zero-add}
use lib.ListN.{length, get_or, take}
use lib.Seq.{take-paste, take-length, get_or-take}
use Rattle.facts.specs.Numbers.{less_or_not}
use Rattle.std.specs.Prelude.{Ok, Err}
use Rattle.std.specs.Result.{result_and}
use Rattle.sheet.specs.Check.{first_cause, Check, Clear, Refused}
use Rattle.desk.specs.First.{First, Command as FirstCommand}
use Rattle.sheet.specs.Reader.{word_in}
use Rattle.sheet.specs.Check.Laws.{clear_refused}
use Rattle.sheet.specs.Values.Laws.{returns_specified}
use Rattle.sheet.specs.Writing.{put_at, put_end}
use Rattle.sheet.specs.Writing.Laws.{put_fits, end_fits, end_not}
use Rattle.machine.specs.Limits.{most_word}
use Rattle.machine.specs.Causes.{machine_in}
use Rattle.machine.specs.declared.loading.Loaded.{Loaded}
use Rattle.build.specs.Building.{connected_causes}
use Rattle.build.specs.Building.Connection.{clear_distinguishes}
use Rattle.machine.specs.Loading.{LoadedBy}
use Rattle.desk.specs.declared.desk.Desk.{Desk}
use Rattle.desk.specs.declared.desk.Order.TheVariants.{Command}
use Rattle.desk.specs.declared.desk.Phase.TheVariants.{Reading}
use Rattle.desk.specs.Desk.Laws.{order_reading}
use Rattle.desk.specs.Desk.Ends.{phase_reading}
use Rattle.desk.specs.Service.{order_on, Reached, first_values, Starts}
use Rattle.desk.specs.Service.Dialogue.{starting_first, starting_refused}

-- what is put ends within the buffer
end_inside : (before xs : List ℕ) → put_end before 0 xs ≤ length before
end_inside before xs = elim (less_or_not (length before) (0 + length xs)) [
  | inl l ↦ omega (arith, end_not before 0 xs l)
  | inr l ↦ omega (arith, end_fits before 0 xs l)
]

-- so its place is a byte
pub end_small : (before xs : List ℕ) {n : ℕ} → n ≡ put_end before 0 xs → length before ≡ most_word → n < 256
end_small before xs e l = omega (arith, end_inside before xs)

-- the desk at its first command
abbrev first_desk : Loaded → List ℕ → ℕ → List ℕ → ℕ → Desk
first_desk l word size heard c = record {
  machine = l.machine;
  word = word;
  size = size;
  heard = heard;
  count = 0;
  sent = c;
  phase = Reading 0;
}

module _ (s : List ℕ) (l : Loaded) (h : LoadedBy (connected_causes s) s l) (before xs : List ℕ)
    (long : length before ≡ most_word) (xe : xs ≡ word_in s) (word : List ℕ) (we : word ≡ put_at before 0 xs)
    (size : ℕ) (se : size ≡ put_end before 0 xs) (heard : List ℕ) (c : ℕ) (ce : c ≡ get_or word 0 0) where
  module _ (clear : first_cause (connected_causes s) ≡ Clear) where
    some : 1 ≤ length (word_in s)
    some = (clear_distinguishes s clear).commands.some

    fits : 0 + length xs ≤ length before
    fits = omega (arith, ap length xe, (clear_distinguishes s clear).commands.few)

    size_is : size ≡ length xs
    size_is = se ∙ end_fits before 0 xs fits ∙ zero-add (length xs)

    word_is : take size word ≡ xs
    word_is =
        ap₂ take (size_is ∙ sym (zero-add (length xs))) (we ∙ put_fits before 0 xs fits)
        ∙ take-paste before 0 xs (length xs) (omega arith) (omega arith)
        ∙ take-length xs

    command_is : c ≡ get_or (word_in s) 0 0
    command_is =
        ce
        ∙ sym (get_or-take size word 0 0 (omega (arith, size_is, ap length xe, some)))
        ∙ ap (λ (x : List ℕ). get_or x 0 0) (word_is ∙ xe)

    order_is : order_on s [] ≡ Command (get_or (word_in s) 0 0)
    order_is = order_reading (machine_in s) (word_in s) [] (omega (arith, some))

    begins : Reached s [] (first_desk l word size heard c)
    begins = record {
      clear = clear;
      machine = h.machine (h.check ∙ clear);
      size = size_is ∙ ap length xe;
      word = word_is ∙ xe;
      phase = sym (phase_reading (machine_in s) (word_in s) [] (omega (arith, some)));
      heard = λ _. refl;
      waits = λ f q.
          let same-command : get_or (word_in s) 0 0 ≡ f = cc (sym order_is ∙ q) in
          (refl, command_is ∙ same-command);
    }

  pub starts_clear : l.check ≡ Clear
      → Starts s (record { first = FirstCommand c; desk = first_desk l word size heard c })
  starts_clear e =
      let clear = sym h.check ∙ e in
      record {
        first = returns_specified first_values (ap FirstCommand (command_is clear) ∙ sym (starting_first s clear));
        desk = λ q. begins q;
      }

  pub starts_refused : {a b : ℕ} → l.check ≡ Refused a b
      → Starts s (record { first = Refused a b; desk = first_desk l word size heard c })
  starts_refused {a} {b} e =
      let refused = sym h.check ∙ e in
      record {
        first = returns_specified first_values (sym (starting_refused s refused));
        desk = λ q. clear_refused q refused;
      }

  pub starts : {first : First} → first ≡ result_and l.check (Ok c)
      → Starts s (record { first = first; desk = first_desk l word size heard c })
  starts fe = rw fe (go l.check refl)
    where
      go : (check : Check) → l.check ≡ check
          → Starts s (record { first = result_and l.check (Ok c); desk = first_desk l word size heard c })
      go Clear e = rw e (starts_clear e)
      go (Err r) e = rw e (starts_refused e)
