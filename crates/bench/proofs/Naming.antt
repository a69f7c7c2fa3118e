-- What the words ask for, step by step as the program finds it.
-- Assumes nothing.
use Prim.Native.Nat.{ℕ, zero, suc, ◌+◌, ◌-◌, ◌≤◌, ◌<◌}
use mathlib.Core.Path.{◌≡◌, refl, sym, ap, ap₂, ◌∙◌}
use mathlib.Core.Bool.{Bool, true, false}
use mathlib.Core.List.{List, [], ◌∷◌}
use mathlib.Core.Logic.{inl, inr}
use native.Mathlib.Omega.{arith}
use borrow.Author.Tests.{lt-ltb, le-ltb}
use lib.ListN.{length, get_or, take, drop, length-drop, get_or-map}
use lib.Seq.{take_all, drop-cons}
use denote.Ref.{Bor}
use Rattle.std.proofs.Common.{min, map, add-one}
use Rattle.std.proofs.lemmas.List.{take-map, drop-map, drop_all, length-map}
use Rattle.std.proofs.lemmas.Slice.Eq.{bytes_eq-Decides}
use Rattle.std.specs.Str.{bytes_eq}
use Rattle.facts.specs.Lists.{same, same_refl, same_equal}
use Rattle.facts.specs.Numbers.{less_or_not}
use Rattle.facts.specs.Tests.{true_or_false}
use Rattle.report.specs.declared.words.Mistake.TheVariants.{Unknown}
use Rattle.bench.specs.declared.words.Row.{Row}
use Rattle.bench.specs.declared.words.Service.{Service}
use Rattle.bench.specs.declared.words.Service.TheVariants.{Wrong, OnSheet}
use Rattle.bench.specs.declared.words.SheetService.TheVariants.{Judge}
use Rattle.bench.specs.Words.{unless_unfit, on_files, services, counted, found_or, named_among}
use Rattle.bench.specs.Words.{named, service_of, words_of}

-- ---- the words as the program has them
-- what stands for a slice that is missing
abbrev missing : Bor (List ℕ)
missing = record { ref_ptr = (0, 0); now = [] }

-- the bytes of a slice in an array
pub slice_at : (slices : List (Bor (List ℕ))) (i : ℕ) → (get_or slices i missing).now ≡ get_or (map (λ x. x.now) slices) i []
slice_at slices i = sym (get_or-map (λ x. x.now) slices i missing)

-- ---- the rows
-- what comparing two words tells
told_same : (r : Bool) (a b : List ℕ) → (r ≡ true → a ≡ b) × (a ≡ b → r ≡ true) → same a b ≡ r
told_same true a b h = ap (same a) (sym (h.0 refl)) ∙ same_refl a
told_same false a b h = elim (true_or_false (same a b)) [
  | inl e ↦ (let z : false ≡ true = h.1 (same_equal a b e) in sym (cc))
  | inr e ↦ e
]

same_is : (w name : List ℕ) → same w name ≡ bytes_eq name w
same_is w name =
    let h = bytes_eq-Decides name w in
    told_same (bytes_eq name w) w name (λ e. sym (h.0 e), λ e. h.1 (sym e))

-- what stands for a row that is missing
abbrev none : Row
none = record { name = record { ref_ptr = (0, 0); now = [] }; least = 0; most = 0; service = Wrong Unknown }

module _ (rows : List Row) (i : ℕ) (w : List ℕ) (n : ℕ) where
  pub row_taken : i < length rows → bytes_eq (get_or rows i none).name.now w ≡ true
      → counted n (get_or rows i none).least (get_or rows i none).most (get_or rows i none).service
      ≡ named_among (drop i rows) w n
  unfolding named_among found_or
  row_taken l e = rw (drop-cons rows i none l, same_is w (get_or rows i none).name.now, e)

  pub row_passed : i < length rows → bytes_eq (get_or rows i none).name.now w ≡ false
      → named_among (drop i rows) w n ≡ named_among (drop (i + 1) rows) w n
  unfolding named_among found_or
  row_passed l e = rw (add-one, drop-cons rows i none l, same_is w (get_or rows i none).name.now, e)

  pub rows_end : length rows ≤ i → Wrong Unknown ≡ named_among (drop i rows) w n
  unfolding named_among
  rows_end l = rw (drop_all i rows l)

-- ---- the words behind the name
-- it is asked for only where the words are as many as it takes
counted_same : {n m : ℕ} (least most : ℕ) {a b : Service} → n ≡ m → (least ≤ n → n ≤ most → a ≡ b)
    → counted n least most a ≡ counted m least most b
unfolding counted
counted_same {n} {m} least most {a} {b} e g = rw (← e) (elim (less_or_not n least) [
  | inl l ↦ rw (lt-ltb n least l)
  | inr l ↦ elim (less_or_not most n) [
    | inl h ↦ rw (le-ltb n least l, lt-ltb most n h)
    | inr h ↦ ap (counted n least most) (g l h)
  ]
])

-- no row is left
pub rows_none : (w : List ℕ) (n : ℕ) → named_among [] w n ≡ Wrong Unknown
unfolding named_among
rows_none w n = refl

-- one row more, before what was found in the rows behind it
pub row_on : (w : List ℕ) (rows : List Row) {name : List ℕ} {place : ℕ × ℕ} {n m least most : ℕ} {r : Row}
    {given service o : Service}
    → r ≡ record { name = record { ref_ptr = place; now = name }; least = least; most = most; service = given }
    → n ≡ m → (least ≤ n → n ≤ most → given ≡ service) → named_among rows w n ≡ o
    → named_among (r ∷ rows) w n ≡ found_or w name (counted m least most service) o
unfolding named_among
row_on w rows {name} {place} {n} {m} {least} {most} e f g h =
    rw e (ap₂ (found_or w name) (counted_same least most f g) h)

-- ---- the words behind the first
next : (i : ℕ) (ws : List (List ℕ)) → get_or (drop 1 ws) i [] ≡ get_or ws (suc i) []
next i [] = refl
next i (w ∷ ws) = refl

-- a single one
pub one_word : (n : ℕ) (ws : List (List ℕ)) → 1 ≤ n → get_or (words_of n (drop 1 ws)) 0 [] ≡ get_or ws 1 []
unfolding words_of
one_word zero ws l = let z : ⊥ = omega arith in absurd z
one_word (suc n) ws l = next 0 ws

-- names of files: none, and one more
pub files_none : (service : Service) (files : List (Bor (List ℕ))) → length files < 1
    → service ≡ on_files service (map (λ x. x.now) files)
unfolding on_files
files_none service [] l = refl
files_none service (x ∷ xs) l = absurd (omega arith)

pub files_more : (service : Service) (files : List (Bor (List ℕ))) {rest r : Service} → 1 ≤ length files
    → r ≡ unless_unfit (get_or files 0 missing).now rest
    → rest ≡ on_files service (map (λ x. x.now) (take (length files - 1) (drop 1 files)))
    → r ≡ on_files service (map (λ x. x.now) files)
unfolding on_files
files_more service [] l e f = absurd (omega arith)
files_more service (x ∷ xs) l e f = e ∙ rw (f, take_all (suc (length xs) - 1) xs (omega arith)) refl

-- as many as there are
words_taken : (n : ℕ) (ws : List (List ℕ)) → n ≤ length ws → words_of n ws ≡ take n ws
unfolding words_of
words_taken zero ws l = refl
words_taken (suc n) [] l = absurd (omega arith)
words_taken (suc n) (w ∷ ws) l = ap (λ (vs : List (List ℕ)). w ∷ vs) (words_taken n ws (omega arith))

-- those that are looked at are all, where these are at most four
pub files_are : (service : Service) (count most : ℕ) (first : List (Bor (List ℕ))) {r : Service} → length first ≡ 5
    → most ≡ min count 5 → count - 1 ≤ 4
    → r ≡ on_files service (map (λ x. x.now) (take (most - 1) (drop 1 first)))
    → r ≡ on_files service (words_of (count - 1) (drop 1 (map (λ x. x.now) first)))
files_are service count most first long e l f =
    let k : most - 1 ≡ count - 1 = omega arith in
    f
    ∙ ap (on_files service)
    (rw k (sym (take-map (λ x. x.now) (count - 1) (drop 1 first))
    ∙ ap (take (count - 1)) (sym (drop-map (λ x. x.now) 1 first))
    ∙ sym (words_taken (count - 1) (drop 1 (map (λ x. x.now) first))
    (omega (arith, length-drop {A = List ℕ}, length-map {A = Bor (List ℕ)} {B = List ℕ})))))

-- ---- all words
pub words_none : (n : ℕ) (ws : List (List ℕ)) → n ≡ 0 → OnSheet Judge ≡ service_of (words_of n ws)
unfolding service_of words_of
words_none n ws e = rw e

words_at : (n : ℕ) (ws : List (List ℕ))
    → unless_unfit (get_or ws 0 []) (named services (get_or ws 0 []) (words_of n (drop 1 ws)))
    ≡ service_of (words_of (suc n) ws)
unfolding service_of words_of
words_at n ws = refl

pub words_more : (n : ℕ) (ws : List (List ℕ)) → (n ≡ 0 → ⊥)
    → unless_unfit (get_or ws 0 []) (named services (get_or ws 0 []) (words_of (n - 1) (drop 1 ws)))
    ≡ service_of (words_of n ws)
words_more n ws d =
    words_at (n - 1) ws ∙ ap (λ (k : ℕ). service_of (words_of k ws)) (omega (arith, d))
