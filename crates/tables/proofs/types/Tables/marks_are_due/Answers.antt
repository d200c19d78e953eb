use Rattle.std.proofs.Common.{◌≡◌, ℕ, ◌<◌, eqb, List, length, get_or, rules, sym, ap, ◌∙◌}
use borrow.Author.Tests.{tests}
use Rattle.std.proofs.lemmas.List.{get_or-map}
use Rattle.std.proofs.lemmas.Iterator.{YieldsList-from_slice}
use Rattle.std.proofs.lemmas.Iterator.Consumers.{YieldsList-from_enumerate}
use Rattle.std.proofs.lemmas.Iterator.Search.{all_from_yields_List}
use Rattle.model.specs.Tables.{each}
use Rattle.tables.specs.declared.types.Mark.{Mark}
use Rattle.tables.specs.Rules.{due}
use Rattle.tables.specs.Views.{marks_view}
use Rattle.tables.proofs.Wholes.{each_place}
use Rattle.tables.proofs.types.Tables.marks_are_due.Goals as goal

no_mark : Mark
no_mark = record { 0 = 0 }

-- the mark of a sector, as the code reads it and as the model does
as_viewed : (ms : List Mark) (due : ℕ → ℕ) (s : ℕ) → s < length ms → eqb (get_or ms s no_mark).0 (due s) ≡ eqb (get_or (marks_view ms) s 1) (due s)
as_viewed ms due s l = ap (λ m. eqb m (due s)) (sym (get_or-map (λ (m : Mark). m.0) ms s no_mark 1 l))

pub returns : goal.returns
returns c =
    let ms = c.args.self.now.marks in
    let due = due c.args.claims.now.dead.now c.args.claims.now.claimed in
    let test = λ (p : ℕ × Mark). eqb p.1.0 (due p.0) in
    let right = λ (s : ℕ). eqb (get_or (marks_view ms) s 1) (due s) in
    all_from_yields_List test _ _ _ c.all.ensures.ran (YieldsList-from_enumerate (YieldsList-from_slice ms cc) cc) (λ x b q k. search (rules, tests))
    ∙ each_place no_mark (λ s m. eqb m.0 (due s)) right ms (as_viewed ms due)
    ∙ ap (λ n. each 0 n right) c.args.self.now.marked
