-- The laws of the words: how many there are and the first five of them are enough, and of these the first 4,096 bytes.
use Rattle.std.specs.Prelude.{ℕ, zero, suc, ◌+◌, ◌≤◌, ◌<◌, ◌≡◌, refl, Bool, true, false, ◌&&◌, ◌||◌, List, [], ◌∷◌}
use Rattle.std.specs.Prelude.{map, eqb, leb, length, get_or, take, drop}
use Rattle.std.proofs.Common.{ap, ap₂, ◌∙◌, inl, inr, arith, leb-true, lt-ltb, le-ltb, ne_eqb, take_all}
use Rattle.std.proofs.Common.{length-take-le}
use Rattle.std.proofs.lemmas.List.{length-map}
use Rattle.std.proofs.Math.ListN.{get_or-map}
use Rattle.facts.specs.Tests.{both_true}
use Rattle.facts.specs.Numbers.{less_or_not}
use Rattle.report.specs.declared.words.Mistake.TheVariants.{Long}
use Rattle.report.specs.Words.{sheet_help, help_text}
use Rattle.bench.specs.declared.words.Service.{Service}
use Rattle.bench.specs.declared.words.Service.TheVariants.{Wrong, OnSheet, Write, AddAnswers}
use Rattle.bench.specs.declared.words.SheetService.TheVariants.{Desk}
use Rattle.bench.specs.Words.{most_argument, unless_unfit, kind_in, kind_of, on_files, wanted_by, write_of, Row}
use Rattle.bench.specs.Words.{sheet_services, services, counted, found_or, named, service_of, words_of}

-- ---- the number of words, and the first five of them
-- these, a missing one empty
abbrev pub firsts : List (List ℕ) → List (List ℕ)
firsts ws = get_or ws 0 [] ∷ get_or ws 1 [] ∷ get_or ws 2 [] ∷ get_or ws 3 [] ∷ get_or ws 4 [] ∷ []

pub words_long : (n : ℕ) (ws : List (List ℕ)) → length (words_of n ws) ≡ n
unfolding words_of
words_long zero ws = refl
words_long (suc n) ws = ap suc (words_long n (drop 1 ws))

-- no service takes more than four words behind its name
few_behind : List Row → Bool
few_behind [] = true
few_behind (r ∷ rows) = (leb r.least 4 && leb r.most 4) && few_behind rows

few_behind_lem : few_behind services ≡ true
unfolding few_behind sheet_services services
few_behind_lem = refl

-- with more of them it is only counted how many there are
counted_many : (n least most : ℕ) (a b : Service) → least ≤ 4 → most ≤ 4 → 4 < n
    → counted n least most a ≡ counted n least most b
unfolding counted
counted_many n least most a b l m h = rw (le-ltb n least (omega arith), lt-ltb most n (omega arith))

named_many : (rows : List Row) (w : List ℕ) (us vs : List (List ℕ)) → few_behind rows ≡ true → length us ≡ length vs
    → 4 < length vs → named rows w us ≡ named rows w vs
unfolding named few_behind
named_many [] w us vs few e l = refl
named_many (r ∷ rows) w us vs few e l =
    let h = both_true _ _ few in
    let limits = both_true _ _ h.0 in
    ap₂ (found_or w r.name)
    (ap (λ (n : ℕ). counted n r.least r.most (r.service us)) e
    ∙ counted_many (length vs) r.least r.most _ _ (leb-true _ _ limits.0) (leb-true _ _ limits.1) l)
    (named_many rows w us vs h.1 e l)

behind_are : (w : List ℕ) (vs : List (List ℕ))
    → named services w (words_of (length vs) (drop 1 (firsts (w ∷ vs)))) ≡ named services w vs
unfolding words_of
behind_are w [] = refl
behind_are w (a ∷ []) = refl
behind_are w (a ∷ b ∷ []) = refl
behind_are w (a ∷ b ∷ c ∷ []) = refl
behind_are w (a ∷ b ∷ c ∷ d ∷ []) = refl
behind_are w (a ∷ b ∷ c ∷ d ∷ e ∷ vs) =
    let all = a ∷ b ∷ c ∷ d ∷ e ∷ vs in
    named_many services w _ all few_behind_lem (words_long (length all) (drop 1 (firsts (w ∷ all)))) (omega arith)

pub words_are : (ws : List (List ℕ)) → service_of (words_of (length ws) (firsts ws)) ≡ service_of ws
unfolding service_of words_of
words_are [] = refl
words_are (w ∷ ws) = ap (unless_unfit w) (behind_are w ws)

-- ---- the first bytes of a word, one more than a word may have
abbrev pub cut : List ℕ → List ℕ
cut w = take (most_argument + 1) w

too_long : (w : List ℕ) (service : Service) → most_argument < length w → unless_unfit w service ≡ Wrong Long
unfolding unless_unfit
too_long w service l = rw (ne_eqb (length w) 0 (λ e. omega arith), lt-ltb most_argument (length w) l)

-- whatever a word stands for
cut_word : (w : List ℕ) (f : List ℕ → Service) → unless_unfit (cut w) (f (cut w)) ≡ unless_unfit w (f w)
cut_word w f = elim (less_or_not most_argument (length w)) [
  | inl l ↦ (let long = length-take-le (most_argument + 1) w (omega arith) in
      rw (too_long (cut w) (f (cut w)) (omega arith), too_long w (f w) l))
  | inr l ↦ rw (take_all (most_argument + 1) w (omega arith))
]

cut_kind : (ws : List (List ℕ)) → kind_of (get_or (map cut ws) 0 []) ≡ kind_of (get_or ws 0 [])
unfolding kind_of
cut_kind ws = ap kind_of (get_or-map cut ws 0 []) ∙ cut_word (get_or ws 0 []) kind_in

cut_files : (service : Service) (ws : List (List ℕ)) → on_files service (map cut ws) ≡ on_files service ws
unfolding on_files
cut_files service [] = refl
cut_files service (w ∷ ws) =
    cut_word w (λ _. on_files service (map cut ws)) ∙ ap (unless_unfit w) (cut_files service ws)

cut_write : (ws : List (List ℕ)) → write_of (map cut ws) ≡ write_of ws
unfolding write_of
cut_write ws =
    ap (λ (n : ℕ). on_files (Write (wanted_by n)) (map cut ws)) (length-map ws cut)
    ∙ cut_files (Write (wanted_by (length ws))) ws

cut_named : (w : List ℕ) (ws : List (List ℕ)) → named services w (map cut ws) ≡ named services w ws
unfolding named sheet_services services
cut_named w ws =
    rw (length-map ws cut, cut_kind ws, cut_write ws, cut_files AddAnswers ws, cut_files (OnSheet Desk) ws)

pub words_cut : (ws : List (List ℕ)) → service_of (map cut ws) ≡ service_of ws
unfolding service_of
words_cut [] = refl
words_cut (w ∷ ws) =
    cut_word w (λ v. named services v (map cut ws)) ∙ ap (unless_unfit w) (cut_named w ws)

-- ---- every name stands in the list of services
pub starts : List ℕ → List ℕ → Bool
starts [] ys = true
starts (x ∷ xs) [] = false
starts (x ∷ xs) (y ∷ ys) = eqb x y && starts xs ys

pub occurs : List ℕ → List ℕ → Bool
occurs xs [] = starts xs []
occurs xs (y ∷ ys) = starts xs (y ∷ ys) || occurs xs ys

pub all_occur : List Row → List ℕ → Bool
all_occur [] text = true
all_occur (r ∷ rows) text = occurs r.name text && all_occur rows text

pub help_names : all_occur services help_text ≡ true
unfolding starts occurs all_occur sheet_services services sheet_help help_text
help_names = refl
