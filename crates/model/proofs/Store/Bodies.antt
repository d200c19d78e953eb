-- The bytes of a list of sectors, and the data that is put there.
use Rattle.std.proofs.Common.{◌≡◌, ℕ, suc, ◌-◌, ◌*◌, ◌<◌, ◌≤◌, Bool, true, false, cond, not, eqb, ltb, leb, List, [], ◌∷◌, ◌++◌, length, get_or, take, drop, Err, sym, refl, ap, ◌∙◌, subst, ap₂, arith}
use Rattle.std.proofs.lemmas.List.{length-append, length-drop, length-take-le, nil_from_length, take-append-drop}
use Rattle.std.proofs.lemmas.Bool.{and_parts, both_ways, eq-eqb, eqb-false, eqb-true, false≢true, ltb-true, not-true, or_left, or_parts, or_right}
use Rattle.model.specs.Image.{bytes, dead, past_end, Sector, Image, seen, look, is_ok, put, Write, writes, Written}
use Rattle.model.specs.Tables.{all, member, distinct}
use Rattle.model.specs.Volume.{bytes_or_blank, body, data_writes}
use Rattle.model.specs.Law.{whole, whole_sector}
use Rattle.model.proofs.Common.Tests.{all-holds}
use Rattle.model.proofs.Store.Writes.{put_same, put_other, writes-step, Able, Off, look_off, left_at, Past, past_off}

-- lengths of bodies -------------------------------------------------------------------------------

sector_length : (x : Sector) → whole_sector x ≡ true → is_ok (seen x) ≡ true → length (bytes_or_blank (seen x)) ≡ 512
sector_length (bytes b) w o = eqb-true (length b) 512 w
sector_length (dead p d) w o = absurd (false≢true o)

pub look-length : (i : Image) (s : ℕ) → whole i ≡ true → is_ok (look i s) ≡ true → length (bytes_or_blank (look i s)) ≡ 512
look-length i s w o = go (ltb s (length i)) refl o
  where
    go : (b : Bool) → ltb s (length i) ≡ b → is_ok (cond b (seen (get_or i s (dead 0 0))) (Err (record { cause = past_end; place = s; depth = 0 }))) ≡ true → length (bytes_or_blank (cond b (seen (get_or i s (dead 0 0))) (Err (record { cause = past_end; place = s; depth = 0 })))) ≡ 512
    go true h o = sector_length (get_or i s (dead 0 0)) (all-holds whole_sector (dead 0 0) i (and_parts (leb (length i) 65535) (all whole_sector i) w).1 s (ltb-true s (length i) h)) o
    go false h o = absurd (false≢true o)

pub body-length : (i : Image) (ss : List ℕ) → whole i ≡ true → ((j : ℕ) → j < length ss → is_ok (look i (get_or ss j 0)) ≡ true) → length (body i ss) ≡ 512 * length ss
body-length i [] w h = refl
body-length i (s ∷ ss) w h =
    let a = look-length i s w (h 0 (omega arith)) in
    let ih = body-length i ss w (λ j l. h (suc j) (omega arith)) in
    length-append (bytes_or_blank (look i s)) (body i ss) ∙ omega arith

pub body_same : (i j : Image) (ss : List ℕ) → ((k : ℕ) → k < length ss → look j (get_or ss k 0) ≡ look i (get_or ss k 0)) → body j ss ≡ body i ss
body_same i j [] h = refl
body_same i j (s ∷ ss) h = ap₂ (λ (x y : List ℕ). x ++ y) (ap bytes_or_blank (h 0 (omega arith))) (body_same i j ss (λ k l. h (suc k) (omega arith)))

-- the data that is put -----------------------------------------------------------------------------

pub data_able : (i : Image) (ss w : List ℕ) → ((s : ℕ) → member s ss ≡ true → is_ok (look i s) ≡ true) → length ss * 512 ≤ length w → Able i (data_writes ss w)
data_able i [] w ok l = tt
data_able i (s ∷ ss) w ok l = (
  ok s (or_left (eqb s s) (member s ss) (eq-eqb s s refl)),
  length-take-le 512 w (enough (length ss) (length w) l),
  data_able i ss (drop 512 w) (λ x m. ok x (or_right (eqb x s) (member x ss) m)) (subst (λ n. length ss * 512 ≤ n) (sym (length-drop 512 w)) (fewer (length ss) (length w) l)),
)
  where
    enough : (a b : ℕ) → suc a * 512 ≤ b → 512 ≤ b
    enough a b l = omega arith

    fewer : (a b : ℕ) → suc a * 512 ≤ b → a * 512 ≤ b - 512
    fewer a b l = omega arith

pub data_off : (ss w : List ℕ) (ws : List Write) (x : ℕ) → member x ss ≡ false → Off x ws → Off x (data_writes ss w ++ ws)
data_off [] w ws x h o = o
data_off (s ∷ ss) w ws x h o = let a = or_parts (eqb x s) (member x ss) h in (eqb-false x s a.0, data_off ss (drop 512 w) ws x a.1 o)

pub left_data : (ss w : List ℕ) (ws : List Write) (x : ℕ) (b : List ℕ) → member x ss ≡ false → left_at x (data_writes ss w ++ ws) b ≡ left_at x ws b
left_data [] w ws x b h = refl
left_data (s ∷ ss) w ws x b h = let a = or_parts (eqb x s) (member x ss) h in ap (λ c. left_at x (data_writes ss (drop 512 w) ++ ws) (cond c (take 512 w) b)) a.0 ∙ left_data ss (drop 512 w) ws x b a.1

abbrev Good : Image → ℕ → Type 0
Good i x = (x ≤ 255) × (is_ok (look i x) ≡ true)

pub data_body : (ss : List ℕ) (i : Image) (w : List ℕ) (ws : List Write) → distinct ss ≡ true → ((x : ℕ) → member x ss ≡ true → (x ≤ 255) × (is_ok (look i x) ≡ true)) → Past ws → length w ≡ 512 * length ss → body (writes (data_writes ss w ++ ws) i).image ss ≡ w
data_body [] i w ws d g p l = sym (nil_from_length w (omega arith))
data_body (s ∷ ss) i w ws d g p l =
    ap (λ (v : Written). body v.image (s ∷ ss)) (writes-step (record { at = s; new = take 512 w }) (data_writes ss (drop 512 w) ++ ws) i mine.1)
    ∙ ap₂ (λ (x y : List ℕ). x ++ y)
    (ap bytes_or_blank (look_off (data_writes ss (drop 512 w) ++ ws) (put i s (take 512 w)) s (data_off ss (drop 512 w) ws s absent (past_off ws s mine.0 p)) ∙ put_same i s (take 512 w) mine.1))
    (data_body ss (put i s (take 512 w)) (drop 512 w) ws parts.1 rest p shorter)
    ∙ take-append-drop 512 w
  where
    parts : (not (member s ss) ≡ true) × (distinct ss ≡ true)
    parts = and_parts (not (member s ss)) (distinct ss) d

    absent : member s ss ≡ false
    absent = not-true (member s ss) parts.0

    mine : Good i s
    mine = g s (or_left (eqb s s) (member s ss) (eq-eqb s s refl))

    rest : (x : ℕ) → member x ss ≡ true → Good (put i s (take 512 w)) x
    rest x h =
        let a = g x (or_right (eqb x s) (member x ss) h) in
        (a.0, ap is_ok (put_other i s x (take 512 w) (λ e. both_ways (member s ss) absent (subst (λ y. member y ss ≡ true) e h))) ∙ a.1)

    shorter : length (drop 512 w) ≡ 512 * length ss
    shorter = length-drop 512 w ∙ less (length w) (length ss) l
      where
        less : (a b : ℕ) → a ≡ 512 * suc b → a - 512 ≡ 512 * b
        less a b e = omega arith
