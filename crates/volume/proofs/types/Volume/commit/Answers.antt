use Rattle.std.proofs.Common.{map, Ok, Err, refl, ap, ◌∙◌, subst}
use Rattle.std.proofs.lemmas.Result.{err_from_is_err_and}
use Rattle.model.specs.Tables.{Tables}
use Rattle.tables.specs.Views.{view}
use Rattle.volume.specs.Contents.{contents_writes, all_writes}
use Rattle.volume.specs.Writing.{Wrote, part_write}
use Rattle.volume.proofs.Acting.{commits, breaks, commits_hold, breaks_hold}
use Rattle.volume.proofs.Writing.{then_wrote, never_wrote}
use Rattle.volume.proofs.types.Volume.commit.Goals as goal

pub invariant_of-self : goal.invariant_of-self
invariant_of-self g c =
    let i = g.S.Store.image c.args.self.now.store in
    let j = g.S.Store.image c.write_contents.new.store in
    let u = view c.args.next.tables in
    let e = c.in_err-write_contents.field-0.0 in
    let none = never_wrote i (contents_writes c.args.contents.now) (map (part_write u) c.args.parts.now) c.write_contents.result j e c.write_contents.ensures c.in_err-write_contents.was in
    record { kept = breaks_hold i c.args.self.now.tables (all_writes u c.args.contents.now c.args.parts.now) (g.met.S.Store.wholeness c.args.self.now.store) c.args.self.now.kept c.write_contents.result j none u c.requires.planned e c.in_err-write_contents.was }

pub returns-in_err-write_contents : goal.returns-in_err-write_contents
returns-in_err-write_contents g c =
    let i = g.S.Store.image c.args.self.now.store in
    let j = g.S.Store.image c.write_contents.new.store in
    let u = view c.args.next.tables in
    let e = c.in_err-write_contents.field-0.0 in
    let none = never_wrote i (contents_writes c.args.contents.now) (map (part_write u) c.args.parts.now) c.write_contents.result j e c.write_contents.ensures c.in_err-write_contents.was in
    let p = err_from_is_err_and c.from_residual.result c.from_residual.ensures.1 in
    breaks i c.args.self.now.tables u (all_writes u c.args.contents.now c.args.parts.now) c.args.answer (g.met.S.Store.wholeness c.args.self.now.store) c.write_contents.result j none c.from_residual.result e c.in_err-write_contents.was (p.1 ∙ ap Err p.2)

pub invariant_of-self-in-Break-branch-2 : goal.invariant_of-self-in-Break-branch-2
invariant_of-self-in-Break-branch-2 g c =
    let i = g.S.Store.image c.args.self.now.store in
    let j = g.S.Store.image c.write_contents.new.store in
    let k = g.S.Store.image c.write_parts.new.store in
    let u = view c.args.next.tables in
    let ps = c.args.parts.now in
    let then = subst (λ (x : Tables). Wrote j (map (part_write x) ps) c.write_parts.result k) (ap view c.tables.ensures) c.write_parts.ensures in
    let both = then_wrote i (contents_writes c.args.contents.now) (map (part_write u) ps) c.write_contents.result c.write_parts.result j k c.write_contents.ensures c.in_ok-write_contents.was then in
    record { kept = breaks_hold i c.args.self.now.tables (all_writes u c.args.contents.now ps) (g.met.S.Store.wholeness c.args.self.now.store) c.args.self.now.kept c.write_parts.result k both u c.requires.planned c.in_err-write_parts.field-0.0 c.in_err-write_parts.was }

pub returns-in_err-write_parts : goal.returns-in_err-write_parts
returns-in_err-write_parts g c =
    let i = g.S.Store.image c.args.self.now.store in
    let j = g.S.Store.image c.write_contents.new.store in
    let k = g.S.Store.image c.write_parts.new.store in
    let u = view c.args.next.tables in
    let ps = c.args.parts.now in
    let then = subst (λ (x : Tables). Wrote j (map (part_write x) ps) c.write_parts.result k) (ap view c.tables.ensures) c.write_parts.ensures in
    let both = then_wrote i (contents_writes c.args.contents.now) (map (part_write u) ps) c.write_contents.result c.write_parts.result j k c.write_contents.ensures c.in_ok-write_contents.was then in
    let p = err_from_is_err_and c.from_residual-in_err-write_parts.result c.from_residual-in_err-write_parts.ensures.1 in
    breaks i c.args.self.now.tables u (all_writes u c.args.contents.now ps) c.args.answer (g.met.S.Store.wholeness c.args.self.now.store) c.write_parts.result k both c.from_residual-in_err-write_parts.result c.in_err-write_parts.field-0.0 c.in_err-write_parts.was (p.1 ∙ ap Err p.2)

pub invariant_of-self-2 : goal.invariant_of-self-2
invariant_of-self-2 g c =
    let i = g.S.Store.image c.args.self.now.store in
    let j = g.S.Store.image c.write_contents.new.store in
    let k = g.S.Store.image c.write_parts.new.store in
    let u = view c.args.next.tables in
    let ps = c.args.parts.now in
    let then = subst (λ (x : Tables). Wrote j (map (part_write x) ps) c.write_parts.result k) (ap view c.tables.ensures) c.write_parts.ensures in
    let both = then_wrote i (contents_writes c.args.contents.now) (map (part_write u) ps) c.write_contents.result c.write_parts.result j k c.write_contents.ensures c.in_ok-write_contents.was then in
    record { kept = commits_hold i c.args.self.now.tables (all_writes u c.args.contents.now ps) (g.met.S.Store.wholeness c.args.self.now.store) c.args.self.now.kept c.write_parts.result k both c.args.next c.requires.planned c.in_ok-write_parts.was }

pub returns : goal.returns
returns g c =
    let i = g.S.Store.image c.args.self.now.store in
    let j = g.S.Store.image c.write_contents.new.store in
    let k = g.S.Store.image c.write_parts.new.store in
    let u = view c.args.next.tables in
    let ps = c.args.parts.now in
    let then = subst (λ (x : Tables). Wrote j (map (part_write x) ps) c.write_parts.result k) (ap view c.tables.ensures) c.write_parts.ensures in
    let both = then_wrote i (contents_writes c.args.contents.now) (map (part_write u) ps) c.write_contents.result c.write_parts.result j k c.write_contents.ensures c.in_ok-write_contents.was then in
    commits i c.args.self.now.tables u (all_writes u c.args.contents.now ps) c.args.answer (g.met.S.Store.wholeness c.args.self.now.store) c.write_parts.result k both (Ok c.args.answer) c.in_ok-write_parts.was refl
