-- From what the parts of a step return to what they promise.
-- Assumes nothing.
use Prim.Native.Nat.{ℕ, zero, suc, ◌+◌, ◌<◌}
use mathlib.Core.Path.{◌≡◌, refl, sym, ap, ◌∙◌}
use Rattle.std.specs.Prelude.{Option, Some, None}
use mathlib.Core.List.{List, [], ◌∷◌}
use mathlib.Core.Option.{some, mem_unique}
use native.Mathlib.Omega.{arith}
use lib.ListN.{length, get_or, take}
use lib.Seq.{get_or-take}
use Rattle.machine.specs.Machine.{Mealy, meaning}
use Rattle.machine.specs.Machine.Laws.{meaning_start}
use Rattle.build.specs.declared.transfers.Path.{Path}
use Rattle.build.specs.Transfer.{transfer, transfer_in}
use Rattle.build.specs.Transfer.Laws.{transfer_path, transfer_here}
use Rattle.build.specs.Transfer.Paths.{path_state}
use Rattle.desk.specs.declared.desk.Desk.{Desk}
use Rattle.desk.specs.declared.desk.Order.TheVariants.{Command}
use Rattle.desk.specs.declared.desk.Phase.TheVariants.{Driving}
use Rattle.desk.specs.declared.stepping.Stepped.{Stepped}
use Rattle.desk.specs.Stepping.{desk_with, AtHome, AtStranger, Arrives, Drives}

-- ---- arriving
-- a transfer to the start from elsewhere
start_apart : {A : Type 0} (M : Mealy) (state c : ℕ) (u : List ℕ) → transfer M state M.start ≡ some (c ∷ u)
    → state ≡ M.start → A
start_apart M state c u e q =
    let l = path_state M M.start (suc (length u)) state (transfer_path M state M.start e).found in
    let here : transfer M state M.start ≡ some [] = rw q (transfer_here M M.start (rw (← q) l)) in
    let z : [] ≡ c ∷ u = mem_unique here e in
    let n : ◌≡◌ {A = ℕ} 0 1 = cc in
    absurd (omega arith)

-- the first command of what a search returns, 0 where it finds nothing
abbrev pub first_of : Option Path → ℕ
first_of None = 0
first_of (Some p) = get_or p.commands 0 0

first_command : (t : Option Path) (c : ℕ) (u : List ℕ) → transfer_in t ≡ some (c ∷ u) → first_of t ≡ c
first_command None c u e = cc
first_command (Some p) c u e =
    let string : take p.length p.commands ≡ c ∷ u = cc in
    first_taken p.length p.commands c u string
  where
    first_taken : (n : ℕ) (xs : List ℕ) (c : ℕ) (u : List ℕ) → take n xs ≡ c ∷ u → get_or xs 0 0 ≡ c
    first_taken zero xs c u e = cc
    first_taken (suc n) xs c u e = rw (← get_or-take (suc n) xs 0 0 (omega arith), e)

module _ (d : Desk) (state n : ℕ) where
  abbrev M : Mealy
  M = meaning d.machine

  pub arrives_home : {r : Stepped} → state ≡ d.machine.start → AtHome d n r → Arrives d state n r
  arrives_home e h = record {
    home = λ _. h;
    sends = λ c u t. start_apart M state c u t (e ∙ sym (meaning_start d.machine));
  }

  pub arrives_sends : (state ≡ d.machine.start → ⊥) → {to : ℕ} → to ≡ d.machine.start → (t : Option Path)
      → transfer_in t ≡ transfer M state to → {c : ℕ} → c ≡ first_of t
      → Arrives d state n (record { order = Command c; desk = desk_with d d.heard n c (Driving state) })
  arrives_sends apart te t e {c} ce = record {
    home = λ q. absurd (apart (q ∙ meaning_start d.machine));
    sends = λ f u q.
        let found = e ∙ ap (transfer M state) (te ∙ sym (meaning_start d.machine)) ∙ q in
        let first = ce ∙ first_command t f u found in
        record {
          order = ap Command first;
          phase = refl;
          count = refl;
          sent = first;
          kept = record { machine = refl; size = refl; word = refl };
        };
  }

-- ---- driving: the cells of the entry of a state and the command last sent
module _ (d : Desk) (state y : ℕ) {v : ℕ} (ve : v ≡ (meaning d.machine).answer state d.sent) where
  pub drives_differs : (v ≡ y → ⊥) → {r : Stepped} → AtStranger d d.count r → Drives d state y r
  drives_differs apart h = record { differs = λ _. h; arrives = λ q l. absurd (apart (ve ∙ q)) }

  pub drives_arrives : v ≡ y → {t n : ℕ} → t ≡ (meaning d.machine).next state d.sent
      → (d.count + 1 < 256 → n ≡ d.count + 1) → {r : Stepped} → Arrives d t n r → Drives d state y r
  drives_arrives same te ne {r} h = record {
    differs = λ q. absurd (q (sym ve ∙ same));
    arrives = λ q l. rw (te, ne l) at h;
  }
