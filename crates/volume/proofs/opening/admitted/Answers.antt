use Rattle.std.proofs.Common.{◌≡◌, Bool, true, false, not, get_or, Some, None, Ok, Err, Option, sym, ap, ◌∙◌, subst, MatchOption}
use Rattle.std.specs.Option.{ok_or}
use Rattle.std.proofs.lemmas.Result.{err_from_is_err_and}
use Rattle.model.specs.Image.{Image}
use Rattle.model.specs.Tables.{load, sound, sound_by}
use Rattle.model.specs.Volume.{format_refusal}
use Rattle.model.specs.declared.types.Refusal.TheVariants.{Unsound as unsound}
use Rattle.tables.specs.Views.{view}
use Rattle.tables.specs.declared.consistent.Consistent.{Consistent}
use Rattle.tables.specs.declared.types.Tables.{Tables}
use Rattle.volume.proofs.Admitting.{Admits, refused_alike, judged, told-sound}
use Rattle.volume.proofs.opening.admitted.Goals as goal

pub returns-in_err-tables : goal.returns-in_err-tables
returns-in_err-tables g c =
    let i = g.S.Store.image c.args.store.now in
    let p = err_from_is_err_and c.from_residual.result c.from_residual.ensures.1 in
    let back : c.from_residual.result ≡ Err c.in_err-tables.field-0.0 = p.1 ∙ ap Err p.2 in
    let refused = refused_alike i c.in_err-tables.field-0.0 c.in_err-tables.ensures.answer in
    record { answer = subst (Admits i) (sym back) refused; image = c.load_checked.ensures.image }

-- what is answered where `admit` decides by b whether the tables are sound
decided : (i : Image) (t : Tables) (b : Bool) (o : Option Consistent) → sound i (view t) ≡ b → MatchOption o (b ≡ false) (λ k. (b ≡ true) × (k.tables ≡ t)) → (format_refusal i ≡ None) × (load i ≡ Ok (view t)) → Admits i (ok_or o unsound)
decided i t b None e h passed = judged i (view t) false passed.0 passed.1 (e ∙ h)
decided i t b (Some k) e h passed = (judged i (view t) true passed.0 passed.1 (e ∙ h.0), passed.1 ∙ ap (λ x. Ok (view x)) (sym h.1))

pub returns-clause-answer : goal.returns-clause-answer
returns-clause-answer g c =
    let i = g.S.Store.image c.args.store.now in
    let t = c.in_ok-tables.tables in
    let dead = c.dead_sectors-dead.result in
    let told = ap (λ (x : Image). sound x (view t)) (sym c.load_checked.ensures.image) ∙ told-sound dead (g.S.Store.image c.load_checked.new.store) c.dead_sectors-dead.ensures.dead (view t) in
    subst (Admits i) (sym c.ok_or.ensures.value) (decided i t (sound_by (λ s. not (get_or dead s true)) (view t)) c.admit.result told c.admit.ensures c.in_ok-tables.ensures.answer)
