-- What the steps of a sweep over the places promise, a whole sweep, and sweeping to its end. Nothing here has to be
-- believed: the service's contract does not name it.
use Rattle.std.specs.Prelude.{ℕ, ◌+◌, ◌*◌, ◌≤◌, ◌<◌, ◌≡◌, Bool, true, false, List, ◌⊎◌, length, get_or, set}
use Rattle.machine.specs.Limits.{most_sequence, most_entries}
use Rattle.machine.specs.Machine.{Mealy, state_at, Proper, Commands}
use Rattle.certify.specs.Marks.{Bits}
use Rattle.certify.specs.Marks.Agreement.{ByRule2, Exact}
use Rattle.certify.specs.Folding.{MarkedIn, From, Marking, Risen, Paired, Folds, Rooted, Advanced}

-- ---- the steps at a place t
-- what is asked where the sweep comes to t from cur: both are paired, and the tables fold places
pub record MergeRequires (M : Mealy) (xs ms alt root : List ℕ) (s cur t : ℕ) : Type 0 where
  pub folds : Folds M xs ms alt root
  pub long : length ms ≡ length xs + 1
  pub bits : Bits ms
  pub low_cur : cur ≤ t
  pub place : t ≤ length xs
  pub pair : Paired M xs ms cur t
  pub state : s ≡ state_at M xs t

-- the marks of cur and t are equal, or else they and what follows from them are marked
pub data Merged (M : Mealy) (xs ms : List ℕ) (cur t : ℕ) (changed : Bool) (ms' : List ℕ)
    (changed' : Bool) : Type 0 where
  equal : get_or ms cur 0 ≡ get_or ms t 0 → ms' ≡ ms → changed' ≡ changed → Merged M xs ms cur t changed ms' changed'
  differ : Marking M xs ms ms' → Risen ms ms' → changed' ≡ true → Merged M xs ms cur t changed ms' changed'

-- the entry e is learnt where t and t + 1 are marked; a known one marks t + 1 where it is to be applied
pub data Learnt (apply : Bool) (ms known : List ℕ) (e t : ℕ) (changed : Bool) (ms' known' : List ℕ)
    (changed' : Bool) : Type 0 where
  unmarked : get_or ms t 0 ≡ 0 → ms' ≡ ms → known' ≡ known → changed' ≡ changed
      → Learnt apply ms known e t changed ms' known' changed'
  knew : (get_or known e 0 ≡ 0 → ⊥) → (get_or ms (t + 1) 0 ≡ 0 → ⊥) → ms' ≡ ms → known' ≡ known → changed' ≡ changed
      → Learnt apply ms known e t changed ms' known' changed'
  learns : (get_or ms t 0 ≡ 0 → ⊥) → (get_or ms (t + 1) 0 ≡ 0 → ⊥) → get_or known e 0 ≡ 0 → ms' ≡ ms → known' ≡ set known e 1
      → changed' ≡ true → Learnt apply ms known e t changed ms' known' changed'
  unknown : get_or ms (t + 1) 0 ≡ 0 → get_or known e 0 ≡ 0 → ms' ≡ ms → known' ≡ known → changed' ≡ changed
      → Learnt apply ms known e t changed ms' known' changed'
  waits : get_or ms (t + 1) 0 ≡ 0 → apply ≡ false → ms' ≡ ms → known' ≡ known → changed' ≡ changed
      → Learnt apply ms known e t changed ms' known' changed'
  applies : (get_or ms t 0 ≡ 0 → ⊥) → get_or ms (t + 1) 0 ≡ 0 → (get_or known e 0 ≡ 0 → ⊥) → ms' ≡ set ms (t + 1) 1
      → known' ≡ known → changed' ≡ true → Learnt apply ms known e t changed ms' known' changed'

-- what is asked where it goes on from t: the tables hold places before t
pub record NextRequires (xs ms alt root : List ℕ) (t cur : ℕ) : Type 0 where
  pub long : length ms ≡ length xs + 1
  pub low_cur : cur ≤ t
  pub place : t < length xs
  pub alternatives : (v : ℕ) → get_or alt v 0 ≤ t
  pub representatives : (x : ℕ) → get_or root x 0 ≤ t

-- where the sweep comes to t + 1 from: an unmarked t is represented by cur, a marked one by its state's place; between
-- two marked places there is nothing to fold
pub data NextRepresented (xs ms alt root : List ℕ) (s t cur : ℕ) (alt' root' : List ℕ) (cur' : ℕ) : Type 0 where
  unmarked : get_or ms t 0 ≡ 0 → root' ≡ root → Advanced xs alt cur t alt' cur'
      → NextRepresented xs ms alt root s t cur alt' root' cur'
  between : (get_or ms t 0 ≡ 0 → ⊥) → (get_or ms (t + 1) 0 ≡ 0 → ⊥) → alt' ≡ alt → root' ≡ root → cur' ≡ t + 1
      → NextRepresented xs ms alt root s t cur alt' root' cur'
  marked : (get_or ms t 0 ≡ 0 → ⊥) → get_or ms (t + 1) 0 ≡ 0 → (r : ℕ) → Rooted root s t root' r
      → Advanced xs alt r t alt' cur' → NextRepresented xs ms alt root s t cur alt' root' cur'

-- ---- a whole sweep
-- where the entry of place i stands in the table of the entries that are known to be verified
abbrev pub place_entry : Mealy → List ℕ → ℕ → ℕ
place_entry M xs i = state_at M xs i * M.k + get_or xs i 0

-- the place that shows an entry
pub record Witness (M : Mealy) (xs given : List ℕ) (e : ℕ) : Type 0 where
  pub place : ℕ
  pub inside : place < length xs
  pub entry : place_entry M xs place ≡ e
  pub before : From M xs given place
  pub after : From M xs given (place + 1)

-- each known entry has one
abbrev pub Knows : Mealy → List ℕ → List ℕ → List ℕ → Type 0
Knows M xs given known = (e : ℕ) → (get_or known e 0 ≡ 0 → ⊥) → Witness M xs given e

-- what is asked: a machine, a sequence, and a mark of 0 or 1 for each place
pub record CloseRequires (M : Mealy) (xs ms : List ℕ) : Type 0 where
  pub proper : Proper M
  pub commands : Commands most_sequence M.k xs
  pub long : length ms ≡ length xs + 1
  pub bits : Bits ms

-- and by a sweep known entries besides, none where they are not applied
pub record SweepRequires (M : Mealy) (apply : Bool) (xs ms known : List ℕ) : Type 0 where
  pub close_requires : CloseRequires M xs ms
  pub table : length known ≡ most_entries
  pub knows : Knows M xs ms known
  pub known_bits : Bits known
  pub fresh : apply ≡ false → (e : ℕ) → get_or known e 0 ≡ 0

-- what a sweep leaves: marks between the given ones and their closure, and known entries; where nothing changed, rule 2
-- adds nothing to the given marks, and every entry between two of them is known
pub record Swept (M : Mealy) (xs given known ms known' : List ℕ) (changed : Bool) : Type 0 where
  pub marking : Marking M xs given ms
  pub table : length known' ≡ most_entries
  pub knows : Knows M xs given known'
  pub known_bits : Bits known'
  pub keeps : (e : ℕ) → get_or known e 0 ≡ 1 → get_or known' e 0 ≡ 1
  pub rises : changed ≡ true → (Risen given ms) ⊎ (Risen known known')
  pub stays : changed ≡ false → (ms ≡ given) × (known' ≡ known)
  pub closed : changed ≡ false → (r : ℕ) → r ≤ length xs → ByRule2 xs (state_at M xs) given r → get_or given r 0 ≡ 1
  pub all : changed ≡ false → (i : ℕ) → i < length xs → get_or given i 0 ≡ 1 → get_or given (i + 1) 0 ≡ 1
      → get_or known' (place_entry M xs i) 0 ≡ 0 → ⊥

-- ---- sweeping until nothing changes, or until every entry is known
-- the first entries, as many as given, are known
abbrev pub AllKnown : List ℕ → ℕ → Type 0
AllKnown known entries = (e : ℕ) → e < entries → get_or known e 0 ≡ 0 → ⊥

-- as many marks, of 0 or 1, and 1 exactly at and behind the marked places
pub record Behind (ms ms' : List ℕ) : Type 0 where
  pub long : length ms' ≡ length ms
  pub bits : Bits ms'
  pub behind : (p q : ℕ) → q ≤ p → p < length ms → get_or ms q 0 ≡ 1 → get_or ms' p 0 ≡ 1
  pub from : (p : ℕ) → get_or ms' p 0 ≡ 1 → (q : ℕ) × (q ≤ p) × (get_or ms q 0 ≡ 1)

-- the given marks closed under rule 2, and exactly the verified entries known
pub record Closed (M : Mealy) (xs given ms known : List ℕ) : Type 0 where
  pub exact : Exact xs (state_at M xs) (MarkedIn given) ms
  pub knows : Knows M xs given known
  pub all : (i : ℕ) → i < length xs → get_or ms i 0 ≡ 1 → get_or ms (i + 1) 0 ≡ 1 → get_or known (place_entry M xs i) 0 ≡ 0 → ⊥
