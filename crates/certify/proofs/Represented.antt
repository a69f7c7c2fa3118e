-- Completeness of folding: where a sweep changed nothing, marks that have equal states and equal commands after
-- them go on equally, because they have one representative. Over any commands xs, states st, marks ms and tables
-- alt and root. Assumes nothing.
use Prim.Native.Nat.{ℕ, zero, suc, ◌+◌, ◌≤◌, ◌<◌}
use mathlib.Core.Path.{◌≡◌, refl, sym, ap, ◌∙◌}
use mathlib.Core.List.{List}
use mathlib.Core.Logic.{inl, inr}
use native.Mathlib.Omega.{arith}
use native.Mathlib.Nat.{eq-or-lt_of_le, add-zero}
use lib.ListN.{length, get_or}
use Rattle.certify.specs.Marks.{Bits}
use Rattle.certify.specs.Folding.{Past, here, past}

-- ---- chains lead to one place
pub past_one : {xs alt : List ℕ} {c r v v' : ℕ} → Past xs alt c r v → get_or xs v 0 ≡ c → Past xs alt c r v'
    → get_or xs v' 0 ≡ c → v ≡ v'
past_one (here e) d (here e') d' = sym e ∙ e'
past_one {xs} (here e) d (past o n k) d' = absurd (o (ap (λ (i : ℕ). get_or xs i 0) e ∙ d))
past_one {xs} (past o n k) d (here e) d' = absurd (o (ap (λ (i : ℕ). get_or xs i 0) e ∙ d'))
past_one (past o n k) d (past o' n' k') d' = past_one k d k' d'

-- they stay where a table grows
pub past_grows : {xs alt alt' : List ℕ} {c r v : ℕ} → ((v : ℕ) → (get_or alt v 0 ≡ 0 → ⊥) → get_or alt' v 0 ≡ get_or alt v 0)
    → Past xs alt c r v → Past xs alt' c r v
past_grows g (here e) = here e
past_grows {xs} {alt} {alt'} {c} {r} {v} g (past o n k) =
    let k' : Past xs alt' c (get_or alt' r 0) v = rw (g r n) (past_grows g k) in
    past o (λ z. n (sym (g r n) ∙ z)) k'

-- ---- representatives
module _ (xs : List ℕ) (st : ℕ → ℕ) (ms alt root : List ℕ) where
  -- r represents t
  pub data Rep : ℕ → ℕ → Type 0 where
    top : {t r : ℕ} → get_or ms t 0 ≡ 1 → get_or root (st t) 0 ≡ r + 1 → Rep t r
    start : {t r : ℕ} → get_or ms t 0 ≡ 0 → t ≡ 0 → r ≡ 0 → Rep t r
    next : {t r : ℕ} (t' r' v : ℕ) → get_or ms t 0 ≡ 0 → Rep t' r' → Past xs alt (get_or xs t' 0) r' v
        → get_or xs v 0 ≡ get_or xs t' 0 → t ≡ t' + 1 → r ≡ v + 1 → Rep t r

  -- the sweep comes to t from cur, which represents it where it is not marked; between two marked
  -- places nothing was folded
  pub data Comes : ℕ → ℕ → Type 0 where
    begin : {t cur : ℕ} → t ≡ 0 → cur ≡ 0 → Comes t cur
    from : {t cur : ℕ} (t' r v : ℕ) → Rep t' r → Past xs alt (get_or xs t' 0) r v → get_or xs v 0 ≡ get_or xs t' 0
        → t ≡ t' + 1 → cur ≡ v + 1 → Comes t cur
    between : {t cur : ℕ} (t' : ℕ) → get_or ms t' 0 ≡ 1 → get_or ms t 0 ≡ 1 → t ≡ t' + 1 → Comes t cur

  pub comes_rep : {t cur : ℕ} → get_or ms t 0 ≡ 0 → Comes t cur → Rep t cur
  comes_rep z (begin e d) = start z e d
  comes_rep z (from t' r v h k c e d) = next t' r v z h k c e d
  comes_rep z (between t' m m' e) = let y : ⊥ = omega arith in absurd y

  pub rep_one : {t r r' : ℕ} → Rep t r → Rep t r' → r ≡ r'
  rep_one (top m e) (top m' e') = omega arith
  rep_one (top m e) (start m' a b) = let z : ⊥ = omega arith in absurd z
  rep_one (top m e) (next t' r' v m' h k c a b) = let z : ⊥ = omega arith in absurd z
  rep_one (start m a b) (top m' e') = let z : ⊥ = omega arith in absurd z
  rep_one (start m a b) (start m' a' b') = omega arith
  rep_one (start m a b) (next t' r' v m' h k c a' b') = let z : ⊥ = omega arith in absurd z
  rep_one (next t' r' v m h k c a b) (top m' e') = let z : ⊥ = omega arith in absurd z
  rep_one (next t' r' v m h k c a b) (start m' a' b') = let z : ⊥ = omega arith in absurd z
  rep_one (next t' r' v m h k c a b) (next t'' r'' v'' m'' h'' k'' c'' a'' b'') =
      let te : t'' ≡ t' = omega arith in
      let re : r' ≡ r'' = rep_one h (rw te at h'') in
      let ce : get_or xs t'' 0 ≡ get_or xs t' 0 = ap (λ (i : ℕ). get_or xs i 0) te in
      let ve : v ≡ v'' = past_one k c (rw (re, ← ce) k'') (c'' ∙ ce) in
      omega arith

  rep_top : {t r : ℕ} → Rep t r → get_or ms t 0 ≡ 1 → get_or root (st t) 0 ≡ r + 1
  rep_top (top m e) h = e
  rep_top (start m a b) h = let z : ⊥ = omega arith in absurd z
  rep_top (next t' r' v m k p c a b) h = let z : ⊥ = omega arith in absurd z

  -- the place after i is represented by the one after v, and has its mark
  pub record Walked (i : ℕ) : Type 0 where
    pub r : ℕ
    pub v : ℕ
    pub rep : Rep i r
    pub path : Past xs alt (get_or xs i 0) r v
    pub command : get_or xs v 0 ≡ get_or xs i 0
    pub agrees : get_or ms (v + 1) 0 ≡ get_or ms (i + 1) 0

  pub comes_walked : {t cur : ℕ} → Comes t cur → get_or ms cur 0 ≡ get_or ms t 0 → (i : ℕ) → t ≡ i + 1
      → (get_or ms i 0 ≡ 1 → get_or ms t 0 ≡ 1 → ⊥) → Walked i
  comes_walked (begin e d) m i at n = let y : ⊥ = omega arith in absurd y
  comes_walked (between t' m' m'' e) m i at n =
      let q : t' ≡ i = omega arith in absurd (n (rw q at m') m'')
  comes_walked {t} {cur} (from t' r v h k c e d) m i at n =
      let q : t' ≡ i = omega arith in
      record {
        r = r;
        v = v;
        rep = rw q at h;
        path = rw q at k;
        command = rw q at c;
        agrees = ap (λ (x : ℕ). get_or ms x 0) (sym d) ∙ m ∙ ap (λ (x : ℕ). get_or ms x 0) at;
      }

  -- equal commands after one representative lead to one place
  walked_one : {a b : ℕ} (p : Walked a) (q : Walked b) → p.r ≡ q.r → get_or xs a 0 ≡ get_or xs b 0 → p.v ≡ q.v
  walked_one {a} {b} p q e c =
      let k : Past xs alt (get_or xs a 0) p.r q.v = rw (c, e) q.path in
      past_one p.path p.command k (q.command ∙ sym c)

  -- ---- a sweep that changed nothing: each place that does not stand between two marked ones has been walked
  -- to, and one command after
  -- two marked places of one state leads to equal marks
  module _ (bits : Bits ms)
      (walked : (i : ℕ) → i < length xs → (get_or ms i 0 ≡ 1 → get_or ms (i + 1) 0 ≡ 1 → ⊥) → Walked i)
      (single : (a b : ℕ) → a < length xs → b < length xs → get_or ms a 0 ≡ 1 → get_or ms b 0 ≡ 1 → st a ≡ st b
      → get_or xs a 0 ≡ get_or xs b 0 → get_or ms (a + 1) 0 ≡ 1 → get_or ms (b + 1) 0 ≡ 1)
      (follows : (a b : ℕ) → a < length xs → b < length xs → st a ≡ st b → get_or xs a 0 ≡ get_or xs b 0
      → st (a + 1) ≡ st (b + 1)) where
    -- two places that go on equally
    record Alike (a b : ℕ) : Type 0 where
      marks : get_or ms a 0 ≡ get_or ms b 0
      states : st a ≡ st b
      rep : get_or ms a 0 ≡ 0 → (r : ℕ) × (Rep a r) × (Rep b r)

    module _ (a b : ℕ) (al : a < length xs) (bl : b < length xs) (c : get_or xs a 0 ≡ get_or xs b 0) (h : Alike a b) where
      -- both walked from one representative
      walked_alike : (p : Walked a) (q : Walked b) → p.r ≡ q.r → Alike (a + 1) (b + 1)
      walked_alike p q e =
          let v = walked_one p q e c in
          let m : get_or ms (a + 1) 0 ≡ get_or ms (b + 1) 0 = rw (← p.agrees, v) q.agrees in
          record {
            marks = m;
            states = follows a b al bl h.states c;
            rep = λ z. (
              p.v + 1,
              next a p.r p.v z p.rep p.path p.command refl refl,
              next b q.r q.v (sym m ∙ z) q.rep q.path q.command refl (ap (λ (x : ℕ). x + 1) v),
            );
          }

      -- two marked places whose next ones are marked
      both_alike : get_or ms (a + 1) 0 ≡ 1 → get_or ms (b + 1) 0 ≡ 1 → Alike (a + 1) (b + 1)
      both_alike ma mb = record {
        marks = ma ∙ sym mb;
        states = follows a b al bl h.states c;
        rep = λ z. let y : ⊥ = omega arith in absurd y;
      }

      marked_on : get_or ms a 0 ≡ 1 → Alike (a + 1) (b + 1)
      marked_on ma =
          let mb : get_or ms b 0 ≡ 1 = sym h.marks ∙ ma in
          elim (eq-or-lt_of_le (bits (a + 1))) [
            | inl e ↦ both_alike e (single a b al bl ma mb h.states c e)
            | inr l ↦ (let na : get_or ms (a + 1) 0 ≡ 1 → ⊥ = λ q. omega arith in
                let p = walked a al (λ x y. na y) in
                let q = walked b bl (λ x y. na (single b a bl al mb ma (sym h.states) (sym c) y)) in
                let e : get_or root (st b) 0 ≡ p.r + 1 = rw (← h.states) (rep_top p.rep ma) in
                walked_alike p q (omega (arith, rep_top q.rep mb)))
          ]

      unmarked_on : get_or ms a 0 ≡ 0 → Alike (a + 1) (b + 1)
      unmarked_on z =
          let one = h.rep z in
          let p = walked a al (λ x y. omega arith) in
          let q = walked b bl (λ x y. omega (arith, h.marks)) in
          walked_alike p q (rep_one p.rep one.1 ∙ rep_one one.2 q.rep)

      alike_on : Alike (a + 1) (b + 1)
      alike_on = elim (eq-or-lt_of_le (bits a)) [ inl e ↦ marked_on e | inr l ↦ unmarked_on (omega arith) ]

    alike_along : (a b m : ℕ) → a + m ≤ length xs → b + m ≤ length xs
        → ((i : ℕ) → i < m → get_or xs (a + i) 0 ≡ get_or xs (b + i) 0) → Alike a b → Alike (a + m) (b + m)
    alike_along a b zero al bl e h = simp add-zero h
    alike_along a b (suc m) al bl e h =
        let k = alike_along a b m (omega arith) (omega arith) (λ i l. e i (omega arith)) h in
        let ea : a + suc m ≡ a + m + 1 = omega arith in
        let eb : b + suc m ≡ b + m + 1 = omega arith in
        rw (ea, eb) (alike_on (a + m) (b + m) (omega arith) (omega arith) (e m (omega arith)) k)

    -- rule 2 adds nothing
    pub folded_closed : (p q m : ℕ) → get_or ms p 0 ≡ 1 → get_or ms q 0 ≡ 1 → st p ≡ st q → get_or ms (p + m) 0 ≡ 1
        → p + m ≤ length xs → q + m ≤ length xs → ((i : ℕ) → i < m → get_or xs (p + i) 0 ≡ get_or xs (q + i) 0)
        → get_or ms (q + m) 0 ≡ 1
    folded_closed p q m mp mq e me pl ql h =
        let start : Alike p q = record {
          marks = mp ∙ sym mq;
          states = e;
          rep = λ z. let y : ⊥ = omega arith in absurd y;
        } in
        sym (alike_along p q m pl ql h start).marks ∙ me

-- ---- representatives stay where the tables grow
module _ (xs : List ℕ) (st : ℕ → ℕ) (ms alt root alt' root' : List ℕ)
    (more : (v : ℕ) → (get_or alt v 0 ≡ 0 → ⊥) → get_or alt' v 0 ≡ get_or alt v 0)
    (higher : (s : ℕ) → (get_or root s 0 ≡ 0 → ⊥) → get_or root' s 0 ≡ get_or root s 0) where
  pub rep_grows : {t r : ℕ} → Rep xs st ms alt root t r → Rep xs st ms alt' root' t r
  rep_grows (top m e) = top m (higher _ (λ z. let y : ⊥ = omega arith in y) ∙ e)
  rep_grows (start m a b) = start m a b
  rep_grows (next t' r' v m h k c a b) = next t' r' v m (rep_grows h) (past_grows more k) c a b

  pub walked_grows : {i : ℕ} → Walked xs st ms alt root i → Walked xs st ms alt' root' i
  walked_grows h = record {
    r = h.r;
    v = h.v;
    rep = rep_grows h.rep;
    path = past_grows more h.path;
    command = h.command;
    agrees = h.agrees;
  }
