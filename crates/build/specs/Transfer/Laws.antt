-- The laws of transfers: what `transfer` computes is the transfer of §6.1, and it is there wherever a
-- string of any length leads.
use Rattle.std.specs.Prelude.{ℕ, zero, suc, ◌≤◌, ◌<◌, ◌≡◌, refl, List, [], ◌∷◌, ◌++◌, length, take, drop}
use Rattle.std.proofs.Common.{ap, ◌∙◌, inl, inr, arith, length-append, length-take, length-drop, take-append-drop}
use Rattle.std.proofs.Math.Option.{none, some}
use Rattle.facts.specs.Numbers.{less_or_not}
use Rattle.facts.specs.Lists.{low_append, low_take, low_drop}
use Rattle.facts.specs.Pigeonhole.{pigeonhole}
use Rattle.facts.specs.FirstOf.{some_none, nothing, value, seen, first_some, least_first, some_first, none_first}
use Rattle.facts.specs.ByteOrder.{first_one}
use Rattle.machine.specs.Machine.{Mealy, run, Proper}
use Rattle.machine.specs.Machine.Laws.{run_none, run_cons, run_append, run_stays}
use Rattle.build.specs.Transfer.{Leads, IsTransfer, first_path, transfer}
use Rattle.build.specs.Transfer.Paths.{path_zero, path_here, path_step, path_state, some_path, path_length}
use Rattle.build.specs.Transfer.Paths.{path_leads, leads_path, path_first}

-- ---- cutting a string that leads
-- a string without what lies between two places of the same state leads to the same state
pub leads_cut : (M : Mealy) (a b i j : ℕ) (u : List ℕ) → Leads M a b u → run M a (take i u) ≡ run M a (take j u)
    → Leads M a b (take i u ++ drop j u)
leads_cut M a b i j u h e = record {
  commands =
      low_append M.k (take i u) (drop j u) (low_take M.k i u h.commands) (low_drop M.k j u h.commands);
  ends = rw (run_append, e, ← run_append, take-append-drop) h.ends;
}

-- it is shorter
pub cut_length : (i j : ℕ) (u : List ℕ) → i < j → j ≤ length u → length (take i u ++ drop j u) < length u
cut_length i j u l k = simp (length-append, length-take, length-drop) (omega arith)

-- where a string leads, one of less than n commands does
pub leads_short : (M : Mealy) (a b : ℕ) → Proper M → a < M.n → (most : ℕ) (u : List ℕ) → length u ≤ most
    → Leads M a b u → (v : List ℕ) × (length v < M.n) × (Leads M a b v)
leads_short M a b p l zero u k h = (u, omega arith, h)
leads_short M a b p l (suc most) u k h = elim (less_or_not (length u) M.n) [
  | inl few ↦ (u, few, h)
  | inr long ↦ (let r =
      pigeonhole M.n (λ i. run M a (take i u))
      (λ i _. run_stays M p a (take i u) l (low_take M.k i u h.commands)) in
      let inside : r.1 ≤ length u = omega (arith, r.3) in
      leads_short M a b p l most (take r.0 u ++ drop r.1 u)
      (omega (arith, cut_length r.0 r.1 u r.2 inside)) (leads_cut M a b r.0 r.1 u h r.4))
]

-- ---- transfers
-- a transfer is a path of the least length below n that has one
pub record Shortest (M : Mealy) (a b : ℕ) (t : List ℕ) : Type 0 where
  pub few : length t < M.n
  pub found : first_path M b (length t) a ≡ some t
  pub passed : (m : ℕ) → m < length t → first_path M b m a ≡ none

-- what is computed is such a path
pub transfer_path : (M : Mealy) (a b : ℕ) {t : List ℕ} → transfer M a b ≡ some t → Shortest M a b t
unfolding transfer
transfer_path M a b e =
    let l = first_some M.n (λ m. first_path M b m a) e in
    let s = path_length M b l.m a l.found in
    record { few = omega (arith, l.low); found = rw s l.found; passed = rw s l.passed }

-- and such a path is the transfer
pub path_transfer : (M : Mealy) (a b : ℕ) {t : List ℕ} → Shortest M a b t → transfer M a b ≡ some t
unfolding transfer
path_transfer M a b {t} s =
    least_first M.n (λ m. first_path M b m a)
    (record { m = length t; low = s.few; found = s.found; passed = s.passed })

-- where there is no path of less than n commands there is no transfer
pub none_transfer : (M : Mealy) (a b : ℕ) → ((m : ℕ) → m < M.n → first_path M b m a ≡ none) → transfer M a b ≡ none
unfolding transfer
none_transfer M a b h = none_first M.n (λ m. first_path M b m a) h

-- a transfer has less than n commands
pub transfer_below : (M : Mealy) (a b : ℕ) {t : List ℕ} → transfer M a b ≡ some t → length t < M.n
transfer_below M a b e = (transfer_path M a b e).few

-- it leads from a state to a state; none shorter does; none of its length that does comes before it in byte order
pub transfer_is : (M : Mealy) → Proper M → (a b : ℕ) {t : List ℕ} → transfer M a b ≡ some t → IsTransfer M a b t
transfer_is M p a b {t} e =
    let s = transfer_path M a b e in
    let l = path_state M b (length t) a s.found in
    let there = path_leads M b (length t) a s.found in
    record {
      from = l;
      to = rw (← there.ends) (run_stays M p a t l there.commands);
      is = record {
        has = there;
        shortest = λ u h.
            let r = leads_path M b p u a l h in
            let n : length u < length t → ⊥ = λ k. some_none r.1 (s.passed (length u) k) in
            omega arith;
        first = λ u h k. path_first M b p (length t) a s.found l u h k;
      };
    }

-- where a string of any length leads there is a transfer
pub leads_some : (M : Mealy) → Proper M → (a b : ℕ) → a < M.n → (u : List ℕ) → Leads M a b u
    → (t : List ℕ) × (transfer M a b ≡ some t)
unfolding transfer
leads_some M p a b l u h =
    let v = leads_short M a b p l (length u) u (omega arith) h in
    let r = leads_path M b p v.0 a l v.2 in
    some_first M.n (λ m. first_path M b m a) (length v.0) v.1 r.1

-- where there is no transfer no string leads
pub none_leads : (M : Mealy) → Proper M → (a b : ℕ) → a < M.n → transfer M a b ≡ none → (u : List ℕ)
    → Leads M a b u → ⊥
none_leads M p a b l e u h = some_none (leads_some M p a b l u h).1 e

-- where no string leads there is no transfer
pub leads_none : (M : Mealy) (a b : ℕ) → ((u : List ℕ) → Leads M a b u → ⊥) → transfer M a b ≡ none
leads_none M a b h = elim (seen (transfer M a b)) [
  | nothing e ↦ e
  | value t e ↦ absurd (h t (path_leads M b (length t) a (transfer_path M a b e).found))
]

-- and a transfer is the one that is computed
pub is_transfer : (M : Mealy) → Proper M → (a b : ℕ) {t : List ℕ} → IsTransfer M a b t → transfer M a b ≡ some t
is_transfer M p a b {t} h =
    let r = leads_some M p a b h.from t h.is.has in
    r.1 ∙ ap some (first_one (Leads M a b) (transfer_is M p a b r.1).is h.is)

-- ---- along a transfer
-- from a state to itself it is empty
pub transfer_here : (M : Mealy) (b : ℕ) → b < M.n → transfer M b b ≡ some []
transfer_here M b l =
    path_transfer M b b
    (record {
      few = omega arith;
      found = path_here M b b refl l;
      passed = λ m k. let z : ⊥ = omega arith in absurd z;
    })

-- and an empty one leads from a state to itself
pub transfer_none_left : (M : Mealy) (a b : ℕ) → transfer M a b ≡ some [] → a ≡ b
transfer_none_left M a b e = (path_zero M b a (transfer_path M a b e).found).1

-- its first command is a command, and the rest of it is the transfer from where that leads
pub transfer_rest : (M : Mealy) (a b c : ℕ) {u : List ℕ} → transfer M a b ≡ some (c ∷ u)
    → (c < M.k) × (transfer M (M.next a c) b ≡ some u)
transfer_rest M a b c {u} e =
    let h = transfer_path M a b e in
    let s = path_step M b (length u) a h.found in
    let head : c ≡ s.command = cc s.string in
    let tail : u ≡ s.rest = cc s.string in
    let low : c < M.k = omega (arith, s.low) in (
      low,
      path_transfer M (M.next a c) b (record {
        few = omega (arith, h.few);
        found = rw (← head, ← tail) at s.found;
        passed = λ m l. elim (seen (first_path M b m (M.next a c))) [
          | nothing q ↦ q
          | value t q ↦ absurd
              (some_none (some_path M b m a c s.inside low q).1 (h.passed (suc m) (omega arith)))
        ];
      }),
    )

-- and so behind any front of it
pub transfer_drop : (M : Mealy) (a b : ℕ) (p q : List ℕ) → transfer M a b ≡ some (p ++ q)
    → transfer M (run M a p) b ≡ some q
transfer_drop M a b [] q e = rw run_none e
transfer_drop M a b (c ∷ p) q e = rw run_cons (transfer_drop M (M.next a c) b p q (transfer_rest M a b c e).1)
