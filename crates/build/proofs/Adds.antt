-- Commands put into a buffer where they fit, one part behind the other.
-- Assumes nothing.
use Prim.Native.Nat.{ℕ}
use mathlib.Core.Path.{◌≡◌}
use mathlib.Core.List.{List, [], ◌++◌}
use native.Mathlib.Omega.{arith}
use lib.ListN.{length-append}
use Rattle.sheet.specs.Writing.Laws.{puts_none, puts_long, puts_append}
use Rattle.build.specs.Writing.{Adds}

-- nothing
pub adds_none : (before : List ℕ) (at : ℕ) {xs : List ℕ} → xs ≡ [] → Adds before at xs before at
adds_none before at e = rw e (record { ends = omega arith; puts = λ l. puts_none before at l })

-- two parts
pub adds_append : {before middle after : List ℕ} {at e f : ℕ} (xs ys : List ℕ) → Adds before at xs middle e
    → Adds middle e ys after f → Adds before at (xs ++ ys) after f
adds_append xs ys a b = record {
  ends = omega (arith, a.ends, b.ends, length-append xs ys);
  puts = λ l.
      let h = a.puts (omega (arith, b.ends)) in
      puts_append xs ys h (b.puts (omega (arith, puts_long xs h)));
}
