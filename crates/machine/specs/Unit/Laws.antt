-- The laws of units: what is one to one into a unit's states is onto, and what an isomorphism says of the unit's runs
-- and answers: in each of its states it goes and answers as the machine does in some state.
use Rattle.std.specs.Prelude.{ℕ, ◌<◌, ◌≡◌, refl, List, [], ◌∷◌}
use Rattle.facts.specs.Lists.{Below, below_head, below_tail}
use Rattle.facts.specs.Pigeonhole.{onto}
use Rattle.machine.specs.Machine.{Mealy, run, answers, Proper}
use Rattle.machine.specs.Machine.Laws.{run_none, run_cons, answers_none, answers_cons}
use Rattle.machine.specs.Unit.{Unit, table_of, begun_in, Isomorphism}

-- a unit has no more states than the machine: what assigns different ones to different states leaves none out
pub assigns_all : (n k : ℕ) (U : Unit n k) (assigned : ℕ → ℕ) → ((s : ℕ) → s < n → assigned s < U.m)
    → ((s t : ℕ) → s < n → t < n → assigned s ≡ assigned t → s ≡ t) → (x : ℕ) → x < U.m
    → (s : ℕ) × (s < n) × (assigned s ≡ x)
assigns_all n k U assigned = onto n U.m assigned U.few

module _ (M : Mealy) (proper : Proper M) (U : Unit M.n M.k) (r : Isomorphism M U) where
  -- the unit as a machine
  abbrev unit : Mealy
  unit = table_of M.n M.k U

  -- commands lead it from the state assigned to s to the one assigned to where they lead from s
  pub assigned_run : (ys : List ℕ) (s : ℕ) → s < M.n → Below M.k ys
      → run unit (r.assigned s) ys ≡ r.assigned (run M s ys)
  assigned_run [] s l b = simp run_none
  assigned_run (c ∷ ys) s l b =
      let low = below_head M.k c ys b in
      rw (run_cons unit, run_cons M, r.goes_alike s c l low)
      (assigned_run ys (M.next s c) (proper.stays s c l low) (below_tail M.k c ys b))

  -- in the state assigned to s it answers as the machine does in s
  pub assigned_alike : (ys : List ℕ) (s : ℕ) → s < M.n → Below M.k ys
      → answers unit (r.assigned s) ys ≡ answers M s ys
  assigned_alike [] s l b = simp answers_none
  assigned_alike (c ∷ ys) s l b =
      let low = below_head M.k c ys b in
      let rest = assigned_alike ys (M.next s c) (proper.stays s c l low) (below_tail M.k c ys b) in
      rw (answers_cons unit, answers_cons M, r.answers_alike s c l low, r.goes_alike s c l low, rest)

  -- in any of its states, as in some state of the sheet
  pub each_alike : (x : ℕ) → x < U.m
      → (s : ℕ) × (s < M.n) × ((ys : List ℕ) → Below M.k ys → answers unit x ys ≡ answers M s ys)
  each_alike x l =
      let o = r.onto x l in
      (o.0, o.1, λ ys b. rw o.2 at (assigned_alike ys o.0 o.1 b))

-- there are units with an isomorphism: the machine itself, begun in any of its states
pub begun_alike : (M : Mealy) (h : Proper M) (b : ℕ) (l : b < M.n) → Isomorphism M (begun_in M h b l)
begun_alike M h b l = record {
  assigned = λ s. s;
  into = λ s k. k;
  one_to_one = λ s t k m e. e;
  onto = λ x k. (x, k, refl);
  answers_alike = λ s c k m. refl;
  goes_alike = λ s c k m. refl;
}
