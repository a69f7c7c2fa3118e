-- The law by which the search leaves a beginning (§14.1), in the words of the specification and as the search tests it.
use Rattle.std.specs.Prelude.{ℕ, ◌<◌, ◌≡◌, false, List, [], ◌∷◌, ◌++◌}
use Rattle.std.proofs.Common.{sym, ◌∙◌, true≢false}
use Rattle.facts.specs.Lists.{Below, below_head, below_tail, Each}
use Rattle.machine.specs.Machine.{Mealy, run, answers, Separates, Proper}
use Rattle.machine.specs.Machine.Laws.{answers_append}
use Rattle.word.specs.Search.{all_pairs, after, unmet}
use Rattle.word.specs.Search.Pairs.{Apart, States, apart_after, after_states, apart_different, different_unmet}
use Rattle.word.specs.Search.Pairs.{all_states, separates_apart}

-- where two different states answered a beginning alike and met, no word that begins so separates
pub met_never : (M : Mealy) (u v : List ℕ) (i j : ℕ) → i < M.n → j < M.n → (i ≡ j → ⊥) → answers M i u ≡ answers M j u
    → run M i u ≡ run M j u → Separates M (u ++ v) → ⊥
met_never M u v i j il jl different alike met h =
    different (h i j il jl (rw (answers_append M i, answers_append M j, alike, met)))

-- the pairs that a beginning leaves alike, each where the beginning leads it
unfoldable pub left : Mealy → List ℕ → List ℕ → List ℕ
left M [] ps = ps
left M (c ∷ u) ps = left M u (after M.next M.answer ps c)

-- what a word has to tell apart behind a beginning
left_apart : (M : Mealy) → Proper M → (u v ps : List ℕ) → Each (States M) ps → Below M.k u
    → Each (Apart M (u ++ v)) ps → Each (Apart M v) (left M u ps)
unfolding left
left_apart M p [] v ps h b a = a
left_apart M p (c ∷ u) v ps h b a =
    let cl = below_head M.k c u b in
    left_apart M p u v (after M.next M.answer ps c) (after_states M p c cl ps h) (below_tail M.k c u b)
    (apart_after M p c cl (u ++ v) ps h a)

-- where two states of a pair that a beginning leaves have met, no word that begins so separates
pub pruned : (M : Mealy) → Proper M → (u : List ℕ) → Below M.k u → unmet (left M u (all_pairs M.n)) ≡ false
    → (v : List ℕ) → Separates M (u ++ v) → ⊥
pruned M p u b e v h =
    let a = left_apart M p u v (all_pairs M.n) (all_states M p) b (separates_apart M p (u ++ v) h) in
    true≢false
    (sym (different_unmet (left M u (all_pairs M.n)) (apart_different M v (left M u (all_pairs M.n)) a)) ∙ e)
