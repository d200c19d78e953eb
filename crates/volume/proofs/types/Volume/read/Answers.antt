use Rattle.std.proofs.Common.{◌≡◌, ℕ, ◌*◌, ◌<◌, ◌≤◌, ltb, List, [], ◌∷◌, length, get_or, Some, None, Ok, Err, Option, sym, refl, ap, ◌∙◌, subst, arith}
use Rattle.std.proofs.lemmas.List.{get_or-map}
use Rattle.std.proofs.lemmas.Result.{err_from_is_err_and}
use Rattle.std.proofs.lemmas.Bool.{le-ltb, lt-ltb}
use Rattle.model.specs.Answers.{of_tables}
use Rattle.model.specs.Image.{Image}
use Rattle.model.specs.Refusals.{read, check, picked}
use Rattle.model.specs.Tables.{Tables as Model, used, row}
use Rattle.model.specs.Volume.{checks, named, number_of}
use Rattle.model.specs.declared.types.Kind.{Kind}
use Rattle.model.specs.declared.types.Kind.TheVariants.{File as file}
use Rattle.model.specs.declared.types.Refusal.TheVariants.{Size as size}
use Rattle.model.proofs.Tables.Places.{used-short}
use Rattle.tables.specs.Plans.{there}
use Rattle.tables.proofs.Choosing.{front-passed, front_stopped, skip, stop}
use Rattle.tables.specs.Views.{view}
use Rattle.tables.specs.declared.types.Row.{Row}
use Rattle.tables.specs.declared.types.Tables.{Tables}
use Rattle.volume.specs.Views.{kept_view}
use Rattle.volume.specs.Writing.{Filled}
use Rattle.volume.proofs.Acting.{Held, refused, looked, unread, filled-buffer, left_buffer}
use Rattle.volume.proofs.Admitting.{on}
use Rattle.volume.proofs.types.Volume.read.Goals as goal

-- the used places of the file that the path names
abbrev places : Model → ℕ → List ℕ → List ℕ
places t d p = used (row t (number_of (named t d p)))

-- they are those of the row that the code reads
row_is : (t u : Tables) (d : ℕ) (p : List ℕ) (n : ℕ) (r : Row) → u ≡ t → n < 32 → named (view t) d p ≡ Some (file, n) → used (get_or u.rows n r).places ≡ places (view t) d p
row_is t u d p n r e l h = ap used (sym (get_or-map (λ (x : Row). x.places) u.rows n r [] (let s = u.rowed in omega arith))) ∙ ap (λ (x : Tables). used (row (view x) n)) e ∙ ap (λ (o : Option (Kind × ℕ)). used (row (view t) (number_of o))) (sym h)

short-buffer : (t : Model) (i : Image) (d : ℕ) (p b : List ℕ) → picked (there file t d p) ≡ None → length b < 512 * length (places t d p) → picked (checks t i (read d p b)) ≡ Some size
short-buffer t i d p b h l = front-passed (there file t d p) (check (ltb (length b) (512 * length (places t d p))) size ∷ []) h ∙ stop (ltb (length b) (512 * length (places t d p))) size None (lt-ltb (length b) (512 * length (places t d p)) l)

long-buffer : (t : Model) (i : Image) (d : ℕ) (p b : List ℕ) → picked (there file t d p) ≡ None → 512 * length (places t d p) ≤ length b → picked (checks t i (read d p b)) ≡ None
long-buffer t i d p b h l = front-passed (there file t d p) (check (ltb (length b) (512 * length (places t d p))) size ∷ []) h ∙ skip (ltb (length b) (512 * length (places t d p))) size None (le-ltb (length b) (512 * length (places t d p)) l) refl

abbrev count : Image → Option Model → ℕ → List ℕ → ℕ
count i o d p = of_tables (on o i) 0 (λ t. length (places t d p))

pub returns-in_err-number : goal.returns-in_err-number
returns-in_err-number g c =
    let i = g.S.Store.image c.args.self.now.store in
    let o = kept_view c.args.self.now.tables in
    let t = view c.in_ok-kept.kept.now.tables in
    let is = ap kept_view c.in_ok-kept.ensures.tables in
    let d = c.args.start in
    let p = c.args.path.now in
    let b = c.args.buffer.now in
    let e = c.in_err-number.field-0.0 in
    let refuses : picked (checks t i (read d p b)) ≡ Some e = front_stopped (there file t d p) (check (ltb (length b) (512 * length (places t d p))) size ∷ []) e c.in_err-number.ensures in
    let x = err_from_is_err_and c.from_residual-in_err-number.result c.from_residual-in_err-number.ensures.1 in
    record { acts = refused i o t is (read d p b) (count i o d p) e c.from_residual-in_err-number.result refuses (x.1 ∙ ap Err x.2); buffer = left_buffer i o t is d p b e refuses }

pub overflow_mul-count : goal.overflow_mul-count
overflow_mul-count g c =
    let r = get_or c.tables.result.now.rows c.in_ok-number.number c.index-tables-number.result in
    let short = used-short r.places in
    let long = r.sized in
    let e = c.count-count.ensures in
    omega arith

pub returns-then-buffer-count : goal.returns-then-buffer-count
returns-then-buffer-count g c =
    let i = g.S.Store.image c.args.self.now.store in
    let o = kept_view c.args.self.now.tables in
    let k = c.in_ok-kept.kept.now.tables in
    let t = view k in
    let is = ap kept_view c.in_ok-kept.ensures.tables in
    let d = c.args.start in
    let p = c.args.path.now in
    let b = c.args.buffer.now in
    let there_is = c.in_ok-number.ensures in
    let same = row_is k c.tables.result.now d p c.in_ok-number.number c.index-tables-number.result c.tables.ensures there_is.1.1 there_is.1.0 in
    let counted = c.count-count.ensures ∙ ap length same in
    let refuses = short-buffer t i d p b there_is.0 (let l = c.if-buffer-count.true in omega arith) in
    record { acts = refused i o t is (read d p b) (count i o d p) size (Err size) refuses refl; buffer = left_buffer i o t is d p b size refuses }

pub invariant_of-self : goal.invariant_of-self
invariant_of-self g c = record { kept = subst (λ (i : Image). Held c.args.self.now.tables i) (sym c.read_row.ensures.image) c.args.self.now.kept }

pub returns-in_err-read_row : goal.returns-in_err-read_row
returns-in_err-read_row g c =
    let i = g.S.Store.image c.args.self.now.store in
    let o = kept_view c.args.self.now.tables in
    let k = c.in_ok-kept.kept.now.tables in
    let t = view k in
    let is = ap kept_view c.in_ok-kept.ensures.tables in
    let d = c.args.start in
    let p = c.args.path.now in
    let b = c.args.buffer.now in
    let there_is = c.in_ok-number.ensures in
    let same = row_is k c.tables.result.now d p c.in_ok-number.number c.index-tables-number.result c.tables.ensures there_is.1.1 there_is.1.0 in
    let counted = c.count-count.ensures ∙ ap length same in
    let passed = long-buffer t i d p b there_is.0 (let l = c.if-buffer-count.false in omega arith) in
    let filled = subst (λ (ss : List ℕ). Filled i ss b c.read_row.result c.read_row.new.buffer) same c.read_row.ensures.filled in
    let x = err_from_is_err_and c.from_residual-in_err-read_row.result c.from_residual-in_err-read_row.ensures.1 in
    record {
      acts = unread i o t is (read d p b) (count i o d p) refl refl passed c.read_row.result filled.answer (g.S.Store.image c.read_row.new.store) c.read_row.ensures.image c.from_residual-in_err-read_row.result c.in_err-read_row.field-0.0 c.in_err-read_row.was (x.1 ∙ ap Err x.2);
      buffer = filled-buffer i o t is d p b c.read_row.new.buffer passed filled.buffer;
    }

pub returns : goal.returns
returns g c =
    let i = g.S.Store.image c.args.self.now.store in
    let o = kept_view c.args.self.now.tables in
    let k = c.in_ok-kept.kept.now.tables in
    let t = view k in
    let is = ap kept_view c.in_ok-kept.ensures.tables in
    let d = c.args.start in
    let p = c.args.path.now in
    let b = c.args.buffer.now in
    let there_is = c.in_ok-number.ensures in
    let same = row_is k c.tables.result.now d p c.in_ok-number.number c.index-tables-number.result c.tables.ensures there_is.1.1 there_is.1.0 in
    let counted = c.count-count.ensures ∙ ap length same in
    let passed = long-buffer t i d p b there_is.0 (let l = c.if-buffer-count.false in omega arith) in
    let filled = subst (λ (ss : List ℕ). Filled i ss b c.read_row.result c.read_row.new.buffer) same c.read_row.ensures.filled in
    record {
      acts = looked i o t is (read d p b) (count i o d p) refl refl passed c.read_row.result filled.answer (g.S.Store.image c.read_row.new.store) c.read_row.ensures.image (Ok c.count-count.result) c.in_ok-read_row.was (ap Ok (counted ∙ sym (ap (λ (y : Option Model). count i y d p) is)));
      buffer = filled-buffer i o t is d p b c.read_row.new.buffer passed filled.buffer;
    }
