-- Transfers (§6.1). `IsTransfer` says what one is and `transfer` computes it; Transfer.Laws shows that both agree for a
-- machine within its limits and any two numbers, by the laws of Transfer.Paths.
use Rattle.std.specs.Prelude.{ℕ, ◌<◌, ◌≡◌, List, ltb, eqb, take}
use Rattle.std.specs.Prelude.{Option as Returned, None, Some}
use Rattle.std.proofs.Math.Option.{Option, none, some}
use Rattle.facts.specs.Lists.{Below}
use Rattle.facts.specs.FirstOf.{first_of}
use Rattle.facts.specs.ByteOrder.{IsFirst}
use Rattle.facts.specs.FirstString.{first_string}
use Rattle.machine.specs.Machine.{Mealy, run}
use Rattle.build.specs.declared.transfers.Path.{Path}
pub mod Laws
pub mod Paths

-- ---- as the specification says it
-- a command string, of any length, that leads from a to b (§6.1)
pub record Leads (M : Mealy) (a b : ℕ) (u : List ℕ) : Type 0 where
  pub commands : Below M.k u
  pub ends : run M a u ≡ b

-- the transfer from a to b (§6.1): both are states, and of the strings that lead from one to the other it is the first
-- of the shortest, in byte order
pub record IsTransfer (M : Mealy) (a b : ℕ) (t : List ℕ) : Type 0 where
  pub from : a < M.n
  pub to : b < M.n
  pub is : IsFirst (Leads M a b) t

-- ---- computed
-- first_path M b m a: of the strings of exactly m commands that lead from a to b along states of the machine, the first
-- in byte order
unfoldable pub first_path : Mealy → ℕ → ℕ → ℕ → Option (List ℕ)
first_path M b m a = first_string M.k (λ s. ltb s M.n) M.next (λ s. eqb s b) m a

-- the transfer from a to b (§6.1): the first string of the least length below n that has one. Where a string of any
-- length leads from a to b, one of a length below n does: leads_some, in Transfer.Laws
unfoldable pub transfer : Mealy → ℕ → ℕ → Option (List ℕ)
transfer M a b = first_of M.n (λ m. first_path M b m a)

-- the transfer in what `build::transfer` returns: the first commands of its array where one was found, else none
abbrev pub transfer_in : Returned Path → Option (List ℕ)
transfer_in None = none
transfer_in (Some p) = some (take p.length p.commands)
