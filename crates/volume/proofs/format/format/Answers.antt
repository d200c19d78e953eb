use Rattle.std.proofs.Common.{ap, ◌∙◌}
use Rattle.model.specs.Image.{Image, put, from_to}
use Rattle.model.specs.Volume.{blank_mark}
use Rattle.tables.specs.Views.{view}
use Rattle.volume.proofs.Blanks.{blank_maps}
use Rattle.volume.proofs.Formatting.{never, four, four_put, z, formatted_is, after_is, answer_is, bare_is}
use Rattle.volume.proofs.format.format.Goals as goal

pub returns-in_err-write-2 : goal.returns-in_err-write-2
returns-in_err-write-2 g c =
    let i = g.S.Store.image c.args.store.now in
    let m = c.blank_map-map.result in
    let f = four i (view c.in_ok-load_checked.field-0) c.in_ok-load_checked.ensures.answer.1 in
    let was = c.dead_sectors.ensures.image ∙ c.load_checked.ensures.image in
    let one = c.write.ensures.image ∙ ap (λ (x : Image). put x 0x100 m) was in
    never (put i 0x100 m) (g.S.Store.image c.write.new.self) 0x101 c.write-2.result c.in_err-write-2.field-0.0 one (four_put i 0x100 m f.map-alive f).dirs-alive c.write-2.ensures.answer c.in_err-write-2.was

pub returns-in_err-write-3 : goal.returns-in_err-write-3
returns-in_err-write-3 g c =
    let i = g.S.Store.image c.args.store.now in
    let m = c.blank_map-map.result in
    let f = four i (view c.in_ok-load_checked.field-0) c.in_ok-load_checked.ensures.answer.1 in
    let was = c.dead_sectors.ensures.image ∙ c.load_checked.ensures.image in
    let one = c.write.ensures.image ∙ ap (λ (x : Image). put x 0x100 m) was in
    let two = c.write-2.ensures.image ∙ ap (λ (x : Image). put x 0x101 z) one in
    let f₁ = four_put i 0x100 m f.map-alive f in
    never (put (put i 0x100 m) 0x101 z) (g.S.Store.image c.write-2.new.self) 0x102 c.write-3.result c.in_err-write-3.field-0.0 two (four_put (put i 0x100 m) 0x101 z f₁.dirs-alive f₁).files-alive c.write-3.ensures.answer c.in_err-write-3.was

pub returns-in_err-write-4 : goal.returns-in_err-write-4
returns-in_err-write-4 g c =
    let i = g.S.Store.image c.args.store.now in
    let m = c.blank_map-map.result in
    let f = four i (view c.in_ok-load_checked.field-0) c.in_ok-load_checked.ensures.answer.1 in
    let was = c.dead_sectors.ensures.image ∙ c.load_checked.ensures.image in
    let one = c.write.ensures.image ∙ ap (λ (x : Image). put x 0x100 m) was in
    let two = c.write-2.ensures.image ∙ ap (λ (x : Image). put x 0x101 z) one in
    let three = c.write-3.ensures.image ∙ ap (λ (x : Image). put x 0x102 z) two in
    let f₁ = four_put i 0x100 m f.map-alive f in
    let f₂ = four_put (put i 0x100 m) 0x101 z f₁.dirs-alive f₁ in
    never (put (put (put i 0x100 m) 0x101 z) 0x102 z) (g.S.Store.image c.write-3.new.self) 0x103 c.write-4.result c.in_err-write-4.field-0.0 three (four_put (put (put i 0x100 m) 0x101 z) 0x102 z f₂.files-alive f₂).rows-alive c.write-4.ensures.answer c.in_err-write-4.was

pub returns : goal.returns
returns g c =
    let i = g.S.Store.image c.args.store.now in
    let m = c.blank_map-map.result in
    let passed = c.in_ok-load_checked.ensures.answer in
    let f = four i (view c.in_ok-load_checked.field-0) passed.1 in
    let was = c.dead_sectors.ensures.image ∙ c.load_checked.ensures.image in
    let one = c.write.ensures.image ∙ ap (λ (x : Image). put x 0x100 m) was in
    let two = c.write-2.ensures.image ∙ ap (λ (x : Image). put x 0x101 z) one in
    let three = c.write-3.ensures.image ∙ ap (λ (x : Image). put x 0x102 z) two in
    let four = c.write-4.ensures.image ∙ ap (λ (x : Image). put x 0x103 z) three in
    let told = c.blank_map-map.ensures ∙ blank_maps c.dead_sectors.result (g.S.Store.image c.load_checked.new.store) c.dead_sectors.ensures.dead ∙ ap (λ (x : Image). from_to 0 512 (blank_mark x)) c.load_checked.ensures.image in
    let left = four ∙ formatted_is i m f told in
    record { answer = answer_is i passed.0; image = after_is i (g.S.Store.image c.write-4.new.self) passed.0 left; bare = λ _. bare_is i (g.S.Store.image c.write-4.new.self) (g.met.S.Store.wholeness c.args.store.now) passed.0 left }
