-- Reads one after another into a buffer: each step, the first fault, and the end.
use Rattle.std.proofs.Common.{◌≡◌, ℕ, ◌+◌, ◌*◌, ◌<◌, ◌≤◌, List, ◌++◌, length, get_or, take, drop, Ok, Err, Result, sym, refl, ap, ◌∙◌, arith}
use borrow.Rule.Slice.PartMut.{put_mid, mid_of, same_len_mid}
use Rattle.std.proofs.lemmas.List.{at_drop_more, at_drop_all, append_assoc, append-nil, take-append-drop, drop-drop, length-take-le, length-drop}
use Rattle.std.proofs.lemmas.Slice.{take-put_mid, drop-put_mid}
use Rattle.model.specs.Answers.{over}
use Rattle.model.specs.Image.{Image, Readout, reads, read_on, look}
use Rattle.model.specs.declared.types.Fault.{Fault}
use Rattle.model.specs.declared.types.Refusal.{Refusal}
use Rattle.model.specs.declared.types.Refusal.TheVariants.{Dead as dead}
use Rattle.volume.specs.Writing.{Filled, unless_fault}

-- k sectors stand at the front of the buffer, and the rest of it is as it was; what is left to read follows them
pub record ReadsOn (i : Image) (ss : List ℕ) (b : List ℕ) (k : ℕ) (j : Image) (c : List ℕ) : Type 0 where
  pub same : j ≡ i
  pub bytes : (reads ss i).bytes ≡ take (512 * k) c ++ (reads (drop k ss) i).bytes
  pub fault : (reads ss i).fault ≡ (reads (drop k ss) i).fault
  pub rest : drop (512 * k) c ≡ drop (512 * k) b
  pub long : length c ≡ length b

pub begins : (i : Image) (ss b : List ℕ) → ReadsOn i ss b 0 i b
begins i ss b = record { same = refl; bytes = refl; fault = refl; rest = refl; long = refl }

-- what the next read gives
next-read : (i : Image) (ss : List ℕ) (k : ℕ) (l : Result (List ℕ) Fault) → k < length ss → look i (get_or ss k 0) ≡ l → reads (drop k ss) i ≡ read_on l (reads (drop (k + 1) ss) i)
next-read i ss k l h e = at_drop_more (λ (xs : List ℕ). reads xs i) ss k 0 h ∙ ap (λ (x : Result (List ℕ) Fault). read_on x (reads (drop (k + 1) ss) i)) e

-- the front of a buffer whose rest is that of b
joined : (n : ℕ) (c b : List ℕ) → n ≤ length c → drop n c ≡ drop n b → c ≡ over (take n c) b
joined n c b l e = sym (take-append-drop n c) ∙ ap (λ (xs : List ℕ). take n c ++ xs) (e ∙ ap (λ (m : ℕ). drop m b) (sym (length-take-le n c l)))

module _ (i : Image) (ss b : List ℕ) (k : ℕ) (j : Image) (c : List ℕ) (fits : 512 * length ss ≤ length b) (on : ReadsOn i ss b k j c) where
  room : k ≤ length ss → 512 * k ≤ length c
  room l = let e = on.long in omega arith

  -- one sector more at the front
  pub read_more : k < length ss → (n : Image) (x y : List ℕ) (m : ℕ) → look j (get_or ss k 0) ≡ Ok x → n ≡ j → y ≡ x → m ≡ 512 → length y ≡ length (mid_of (512 * k) m c) → ReadsOn i ss b (k + 1) n (put_mid (512 * k) m c y)
  read_more l n x y m seen same is wide fill =
      let more = next-read i ss k (Ok x) l (ap (λ (z : Image). look z (get_or ss k 0)) (sym on.same) ∙ seen) in
      let long = on.long in
      let enough : 512 * k + 512 ≤ length c = omega arith in
      let sized : length y ≡ 512 = fill ∙ mid_long (512 * k) m c wide enough in
      let first = take-put_mid (512 * k) m c y (512 * (k + 1)) (omega arith) (omega arith) ∙ ap (λ (z : List ℕ). take (512 * k) c ++ z) is in
      let back = drop-put_mid (512 * k) m c y (512 * (k + 1)) (omega arith) (omega arith) (omega arith) in
      record {
        same = same ∙ on.same;
        bytes = on.bytes ∙ ap (λ (z : Readout). take (512 * k) c ++ z.bytes) more ∙ sym (append_assoc (take (512 * k) c) x (reads (drop (k + 1) ss) i).bytes) ∙ ap (λ (z : List ℕ). z ++ (reads (drop (k + 1) ss) i).bytes) (sym first);
        fault = on.fault ∙ ap (λ (z : Readout). z.fault) more;
        rest = back ∙ later;
        long = same_len_mid (512 * k) m c y fill ∙ on.long;
      }
    where
      step : 512 * (k + 1) ≡ 512 * k + 512
      step = omega arith

      mid_long : (a w : ℕ) (xs : List ℕ) → w ≡ 512 → a + 512 ≤ length xs → length (mid_of a w xs) ≡ 512
      mid_long a w xs e h = let d = length-drop a xs in length-take-le w (drop a xs) (omega arith) ∙ e

      later : drop (512 * (k + 1)) c ≡ drop (512 * (k + 1)) b
      later = ap (λ (z : ℕ). drop z c) step ∙ sym (drop-drop 512 (512 * k) c) ∙ ap (drop 512) on.rest ∙ drop-drop 512 (512 * k) b ∙ ap (λ (z : ℕ). drop z b) (sym step)

  pub read_stops : k < length ss → (f : Fault) (r : Result (Unit {0}) Refusal) → look j (get_or ss k 0) ≡ Err f → r ≡ Err (dead f) → Filled i ss b r c
  read_stops l f r seen e =
      let more = next-read i ss k (Err f) l (ap (λ (y : Image). look y (get_or ss k 0)) (sym on.same) ∙ seen) in
      let front = on.bytes ∙ ap (λ (y : Readout). take (512 * k) c ++ y.bytes) more ∙ append-nil (take (512 * k) c) in
      record { answer = e ∙ sym (ap unless_fault (on.fault ∙ ap (λ (y : Readout). y.fault) more)); buffer = joined (512 * k) c b (room (omega arith)) on.rest ∙ ap (λ (y : List ℕ). over y b) (sym front) }

  pub read_all : length ss ≤ k → k ≤ length ss → Filled i ss b (Ok tt) c
  read_all l m =
      let over-all = at_drop_all (λ (xs : List ℕ). reads xs i) ss k l in
      let front = on.bytes ∙ ap (λ (y : Readout). take (512 * k) c ++ y.bytes) over-all ∙ append-nil (take (512 * k) c) in
      record { answer = sym (ap unless_fault (on.fault ∙ ap (λ (y : Readout). y.fault) over-all)); buffer = joined (512 * k) c b (room m) on.rest ∙ ap (λ (y : List ℕ). over y b) (sym front) }
