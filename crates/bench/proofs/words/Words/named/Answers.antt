use Rattle.std.proofs.Common.{ℕ, ◌≡◌, ◌-◌, refl, sym, ap, ◌∙◌, List, map, length, drop, arith}
use Rattle.bench.specs.declared.words.Service.TheVariants.{Write}
use Rattle.bench.specs.Words.{kind_of, on_files, wanted_by, write_of, sheet_services, services, words_of, named}
use Rattle.bench.specs.Words.Laws.{words_long}
use Rattle.bench.proofs.Naming.{row_on, rows_none, one_word, files_are, slice_at}
use Rattle.bench.proofs.words.Words.named.Goals as goal

pub returns : goal.returns
unfolding named services sheet_services write_of
returns c =
    let words = c.args.self.now in
    let first = words.first in
    let ws = map (λ x. x.now) first in
    let vs = words_of (words.count - 1) (drop 1 ws) in
    let n : words.count - 1 ≡ length vs = sym (words_long (words.count - 1) (drop 1 ws)) in
    c.named.ensures
    ∙ row_on _ _ c.new.ensures n (λ l m. refl)
    (row_on _ _ c.new-2.ensures n (λ l m. refl)
    (row_on _ _ c.new-3.ensures n (λ l m. refl)
    (row_on _ _ c.new-4.ensures n (λ l m. refl)
    (row_on _ _ c.new-5.ensures n
    (λ l m. files_are _ words.count c.min.result first c.type_inv.self c.min.ensures (omega arith) c.on_files.ensures
    ∙ ap (λ service. on_files service vs) c.on_sheet.ensures)
    (row_on _ _ c.new-6.ensures n
    (λ l m. files_are _ words.count c.min.result first c.type_inv.self c.min.ensures (omega arith) c.on_files-2.ensures)
    (row_on _ _ c.new-7.ensures n
    (λ l m. files_are _ words.count c.min.result first c.type_inv.self c.min.ensures (omega arith) c.on_files-3.ensures
    ∙ ap (λ service. on_files service vs) (c.write.ensures ∙ ap Write (c.wanted_by.ensures ∙ ap wanted_by n)))
    (row_on _ _ c.new-8.ensures n
    (λ l m. c.kind_of.ensures ∙ ap kind_of (slice_at first 1 ∙ sym (one_word (words.count - 1) ws l)))
    (row_on _ _ c.new-9.ensures n (λ l m. c.on_sheet-2.ensures)
    (row_on _ _ c.new-10.ensures n (λ l m. c.on_sheet-3.ensures)
    (row_on _ _ c.new-11.ensures n (λ l m. c.on_sheet-4.ensures)
    (row_on _ _ c.new-12.ensures n (λ l m. c.on_sheet-5.ensures) (rows_none _ _))))))))))))
    ∙ ap (λ (w : List ℕ). named services w vs) (slice_at first 0)
