-- The laws of `first_path`, the first string that the machine accepts as an automaton: its states are inside, and b
-- alone accepts. What it accepts from a state are the strings that lead from there to b.
use Rattle.std.specs.Prelude.{ℕ, zero, suc, ◌≤◌, ◌<◌, ◌≡◌, true, ◌&&◌, List, [], ◌∷◌, ltb, eqb, length}
use Rattle.std.proofs.Common.{sym, ◌∙◌, arith}
use Rattle.std.proofs.Math.Option.{none, some}
use borrow.Author.Tests.{ltb-true, eqb-true, lt-ltb, le-ltb, eq-eqb}
use Rattle.facts.specs.Tests.{both_true}
use Rattle.facts.specs.FirstOf.{Some}
use Rattle.facts.specs.Lists.{below_cons, below_head, below_tail}
use Rattle.facts.specs.ByteOrder.{Before}
use Rattle.facts.specs.FirstString.{Accepted}
use Rattle.facts.proofs.FirstStringLaws.{string_zero, string_here, string_step, some_string, none_string}
use Rattle.facts.proofs.FirstStringLaws.{string_outside, string_length, string_accepted, accepted_some, string_first}
use Rattle.machine.specs.Machine.{Mealy, Proper}
use Rattle.machine.specs.Machine.Laws.{run_none, run_cons}
use Rattle.build.specs.Transfer.{Leads, first_path}

module _ (M : Mealy) (b : ℕ) where
  -- ---- its equations, read backwards and forwards
  -- a path of no command stays at the state b
  pub path_zero : (a : ℕ) {t : List ℕ} → first_path M b 0 a ≡ some t → (a < M.n) × (a ≡ b) × (t ≡ [])
  unfolding first_path
  path_zero a e =
      let z = string_zero _ _ _ _ a e in
      let h = both_true (ltb a M.n) (eqb a b) z.0 in
      (ltb-true a M.n h.0, eqb-true a b h.1, z.1)

  -- a state of the machine that is b is inside and accepts
  here : (a : ℕ) → a ≡ b → a < M.n → (ltb a M.n && eqb a b) ≡ true
  here a e l = rw (lt-ltb a M.n l, eq-eqb a b e)

  -- from b there is one of no command
  pub path_here : (a : ℕ) → a ≡ b → a < M.n → first_path M b 0 a ≡ some []
  unfolding first_path
  path_here a e l = string_here _ _ _ _ a (here a e l)

  -- a path of m + 1 commands: the least command with a path of m commands behind it
  pub record Step (m a : ℕ) (t : List ℕ) : Type 0 where
    pub inside : a < M.n
    pub command : ℕ
    pub rest : List ℕ
    pub low : command < M.k
    pub found : first_path M b m (M.next a command) ≡ some rest
    pub string : t ≡ command ∷ rest
    pub passed : (c : ℕ) → c < command → first_path M b m (M.next a c) ≡ none

  -- what is found of m + 1 commands is such a path
  pub path_step : (m a : ℕ) {t : List ℕ} → first_path M b (suc m) a ≡ some t → Step m a t
  unfolding first_path
  path_step m a e =
      let s = string_step _ _ _ _ m a e in
      record {
        inside = ltb-true a M.n s.inner;
        command = s.element;
        rest = s.rest;
        low = s.low;
        found = s.found;
        string = s.string;
        passed = s.passed;
      }

  -- a path begins at a state
  pub path_state : (m a : ℕ) {t : List ℕ} → first_path M b m a ≡ some t → a < M.n
  path_state zero a e = (path_zero a e).0
  path_state (suc m) a e = (path_step m a e).inside

  -- a command before a path of m commands gives a path of m + 1 commands
  pub some_path : (m a c : ℕ) {u : List ℕ} → a < M.n → c < M.k → first_path M b m (M.next a c) ≡ some u
      → Some (first_path M b (suc m) a)
  unfolding first_path
  some_path m a c l k e = some_string _ _ _ _ m a c (lt-ltb a M.n l) k e

  -- where no command has a path of m commands behind it there is none of m + 1 commands
  pub none_path : (m a : ℕ) → ((c : ℕ) → c < M.k → first_path M b m (M.next a c) ≡ none)
      → first_path M b (suc m) a ≡ none
  unfolding first_path
  none_path m a h = none_string _ _ _ _ m a h

  -- what is no state has no path
  pub path_outside : (m a : ℕ) → M.n ≤ a → first_path M b m a ≡ none
  unfolding first_path
  path_outside m a l = string_outside _ _ _ _ m a (le-ltb a M.n l)

  -- a path has its length
  pub path_length : (m a : ℕ) {t : List ℕ} → first_path M b m a ≡ some t → length t ≡ m
  unfolding first_path
  path_length m a e = string_length _ _ _ _ m a e

  -- ---- strings that lead to b
  -- the empty string leads from b
  pub leads_here : {a : ℕ} → a ≡ b → Leads M a b []
  leads_here {a} e = record { commands = λ i l. let z : ⊥ = omega arith in absurd z; ends = run_none M a ∙ e }

  -- a command before a string that leads
  pub leads_more : (a c : ℕ) (u : List ℕ) → c < M.k → Leads M (M.next a c) b u → Leads M a b (c ∷ u)
  leads_more a c u l h = record { commands = below_cons M.k c u l h.commands; ends = run_cons M a c u ∙ h.ends }

  -- the first command of a string that leads is a command
  pub leads_first : (a c : ℕ) (u : List ℕ) → Leads M a b (c ∷ u) → c < M.k
  leads_first a c u h = below_head M.k c u h.commands

  -- and the rest leads on
  pub leads_rest : (a c : ℕ) (u : List ℕ) → Leads M a b (c ∷ u) → Leads M (M.next a c) b u
  leads_rest a c u h = record {
    commands = below_tail M.k c u h.commands;
    ends = sym (run_cons M a c u) ∙ h.ends;
  }

  -- ---- they are what is accepted
  abbrev Accepts : ℕ → List ℕ → Type 0
  Accepts a u = Accepted M.k (λ s. ltb s M.n) M.next (λ s. eqb s b) a u

  accepted_leads : (u : List ℕ) (a : ℕ) → Accepts a u → Leads M a b u
  accepted_leads [] a h = leads_here (eqb-true a b (both_true (ltb a M.n) (eqb a b) h).1)
  accepted_leads (c ∷ u) a h = leads_more a c u h.1 (accepted_leads u (M.next a c) h.2)

  leads_accepted : Proper M → (u : List ℕ) (a : ℕ) → a < M.n → Leads M a b u → Accepts a u
  leads_accepted p [] a l h = here a (sym (run_none M a) ∙ h.ends) l
  leads_accepted p (c ∷ u) a l h =
      let k = leads_first a c u h in
      (lt-ltb a M.n l, k, leads_accepted p u (M.next a c) (p.stays a c l k) (leads_rest a c u h))

  -- a path leads to b
  pub path_leads : (m a : ℕ) {t : List ℕ} → first_path M b m a ≡ some t → Leads M a b t
  unfolding first_path
  path_leads m a {t} e = accepted_leads t a (string_accepted _ _ _ _ m a e)

  -- where a string leads to b there is a path of its length
  pub leads_path : Proper M → (u : List ℕ) (a : ℕ) → a < M.n → Leads M a b u → Some (first_path M b (length u) a)
  unfolding first_path
  leads_path p u a l h = accepted_some _ _ _ _ u a (leads_accepted p u a l h)

  -- no string of its length that leads to b comes before a path
  pub path_first : Proper M → (m a : ℕ) {t : List ℕ} → first_path M b m a ≡ some t → a < M.n → (u : List ℕ)
      → Leads M a b u → length u ≡ m → Before u t → ⊥
  unfolding first_path
  path_first p m a e l u h = string_first _ _ _ _ m a e u (leads_accepted p u a l h)
