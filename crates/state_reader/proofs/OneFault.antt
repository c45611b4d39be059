-- The causes for which bytes are no state exclude one another, and each holds at one place.
use Rattle.std.proofs.Common.{◌≡◌, ℕ, zero, suc, ◌<◌, ◌+◌, ◌^◌, List, [], ◌∷◌, ◌++◌, length, map as each, take, get_or, refl, ap, sym, ◌∙◌, subst, arith, append_assoc, length-append}
use Rattle.calculus.specs.Bytes.{be64, joined}
use Rattle.calculus.specs.Root.{root}
use Rattle.calculus.specs.Rows.{Row, row_code}
use Rattle.row_reader.specs.RowCodes.{IsCutRow}
use Rattle.state_reader.specs.Files.{Begins, EndsEarly, in_header, in_row, heading, HasNoRow, HasOtherRoot, IsCutHeader, IsNoNextRow, no_row, misplaced, IsWrongAt, in_heading, past_end, IsWrongHeading}
use Rattle.state_reader.specs.Laws.{IsLongAt}
use Rattle.state_reader.proofs.Exact.{early-stop, full-stop, left-long, length-codes, one-stop, wrong-stop}
use Rattle.state_reader.proofs.Same.{root-same}

-- numbers of which neither is less are equal
neither-less : (i j : ℕ) → (i < j → ⊥) → (j < i → ⊥) → i ≡ j
neither-less zero zero h k = refl
neither-less zero (suc j) h k = absurd (h (omega arith))
neither-less (suc i) zero h k = absurd (k (omega arith))
neither-less (suc i) (suc j) h k = ap suc (neither-less i j (λ l. h (omega (arith, l))) (λ l. k (omega (arith, l))))

get-front : (xs ys : List ℕ) (i : ℕ) → i < length xs → get_or (xs ++ ys) i 0 ≡ get_or xs i 0
get-front [] ys i l = absurd (omega arith)
get-front (x ∷ xs) ys zero l = refl
get-front (x ∷ xs) ys (suc i) l = get-front xs ys i (omega arith)

get-take : (n : ℕ) (xs : List ℕ) (i : ℕ) → i < n → get_or (take n xs) i 0 ≡ get_or xs i 0
get-take zero xs i l = absurd (omega arith)
get-take (suc n) [] i l = refl
get-take (suc n) (x ∷ xs) zero l = refl
get-take (suc n) (x ∷ xs) (suc i) l = get-take n xs i (omega arith)

cut-begins : {bs stored left : List ℕ} {told : ℕ} {rows : List Row} → IsCutHeader bs → Begins bs stored told rows left → ⊥
cut-begins {bs} {stored} {left} {told} {rows} c b = omega (arith, c.short, left-long bs stored left told rows b)

heading-begins : {bs stored left : List ℕ} {at told : ℕ} {rows : List Row} → IsWrongHeading at bs → Begins bs stored told rows left → ⊥
heading-begins {bs} {stored} {left} {at} {told} {rows} w b = w.differs (ap (λ (z : List ℕ). get_or z at 0) b.is ∙ get-front heading _ at (omega (arith, w.low)))

cut-heading : {bs : List ℕ} {at : ℕ} → IsCutHeader bs → IsWrongHeading at bs → ⊥
cut-heading {bs} {at} c w = w.differs (sym (get-take 9 bs at w.low) ∙ ap (λ (z : List ℕ). get_or z at 0) c.same ∙ get-take (length bs) heading at w.within)

heading-once : {bs : List ℕ} (i j : ℕ) → IsWrongHeading i bs → IsWrongHeading j bs → i < j → ⊥
heading-once {bs} i j v w l = v.differs (sym (get-take j bs i l) ∙ ap (λ (z : List ℕ). get_or z i 0) w.before ∙ get-take j heading i l)

-- rows that are laid out to their number in the bytes
abbrev pub AreLaid : List ℕ → List ℕ → List Row → Type 0
AreLaid bs stored rows = Begins bs stored (length rows) rows []

module _ (bs : List ℕ) (few : length bs < 2 ^ 32) where
  -- a row that is cut, and no row there
  at-row : {stored left : List ℕ} {told at : ℕ} {rows : List Row} → Begins bs stored told rows left → IsCutRow left → HasNoRow left → at + length left ≡ length bs → IsLongAt at bs
  at-row {stored} {left} {told} {at} {rows} b c w p =
      let before = heading ++ (stored ++ (be64 told ++ joined (each row_code rows))) in
      let is : bs ≡ before ++ left =
      b.is ∙ ap (λ (z : List ℕ). heading ++ (stored ++ z)) (sym (append_assoc (be64 told) (joined (each row_code rows)) left)) ∙ ap (λ (z : List ℕ). heading ++ z) (sym (append_assoc stored (be64 told ++ joined (each row_code rows)) left))
      ∙ sym (append_assoc heading (stored ++ (be64 told ++ joined (each row_code rows))) left)
      in
      record { before = before; left = left; is = is; place = omega (arith, p, ap length is, length-append before left); cut = c; long = w.whole }

  pub early-wrong : {at : ℕ} → EndsEarly bs → IsWrongAt at bs → IsLongAt at bs
  early-wrong (in_header c) (in_heading w) = absurd (cut-heading c w)
  early-wrong (in_header c) (in_row b l p n) = absurd (cut-begins c b)
  early-wrong (in_header c) (past_end b l p s) = absurd (cut-begins c b)
  early-wrong (in_row b l c none) (in_heading w) = absurd (heading-begins w b)
  early-wrong {at} (in_row {left = left} b l c none) (in_row {left = behind} {rows = others} d m p n) = on n
    where
      same : left ≡ behind
      same = (one-stop (early-stop few b none) (wrong-stop d n)).left_is

      on : IsNoNextRow others behind → IsLongAt at bs
      on (no_row w) = at-row d (subst IsCutRow same c) w p
      on (misplaced r y s q f) = absurd (none (omega (arith, few, left-long _ _ _ _ _ b)) r y s (same ∙ q))
  early-wrong (in_row {rows = rows} b l c none) (past_end {rows = others} d m p s) =
      let a = one-stop (early-stop few b none) (full-stop d m) in
      absurd (omega (arith, l, m, a.number_is, length-codes rows others a.codes))

  pub wrong-once : {i j : ℕ} → IsWrongAt i bs → IsWrongAt j bs → i ≡ j
  wrong-once {i} {j} (in_heading v) (in_heading w) = neither-less i j (heading-once i j v w) (heading-once j i w v)
  wrong-once (in_heading v) (in_row b l p n) = absurd (heading-begins v b)
  wrong-once (in_heading v) (past_end b l p s) = absurd (heading-begins v b)
  wrong-once (in_row b l p n) (in_heading w) = absurd (heading-begins w b)
  wrong-once (in_row b l p n) (in_row d m q o) =
      let a = one-stop (wrong-stop b n) (wrong-stop d o) in
      omega (arith, p, q, ap length a.left_is)
  wrong-once (in_row {rows = rows} b l p n) (past_end {rows = others} d m q s) =
      let a = one-stop (wrong-stop b n) (full-stop d m) in
      absurd (omega (arith, l, m, a.number_is, length-codes rows others a.codes))
  wrong-once (past_end b l p s) (in_heading w) = absurd (heading-begins w b)
  wrong-once (past_end {rows = rows} b l p s) (in_row {rows = others} d m q o) =
      let a = one-stop (full-stop b l) (wrong-stop d o) in
      absurd (omega (arith, l, m, a.number_is, length-codes rows others a.codes))
  wrong-once (past_end b l p s) (past_end d m q t) =
      let a = one-stop (full-stop b l) (full-stop d m) in
      omega (arith, p, q, ap length a.left_is)

  pub laid-early : {stored : List ℕ} {rows : List Row} → AreLaid bs stored rows → EndsEarly bs → ⊥
  laid-early b (in_header c) = cut-begins c b
  laid-early {rows = rows} b (in_row {rows = others} d m c none) =
      let a = one-stop (full-stop b refl) (early-stop few d none) in
      omega (arith, m, a.number_is, length-codes rows others a.codes)

  pub laid-wrong : {stored : List ℕ} {at : ℕ} {rows : List Row} → AreLaid bs stored rows → IsWrongAt at bs → ⊥
  laid-wrong b (in_heading w) = heading-begins w b
  laid-wrong {rows = rows} b (in_row {rows = others} d m p n) =
      let a = one-stop (full-stop b refl) (wrong-stop d n) in
      omega (arith, m, a.number_is, length-codes rows others a.codes)
  laid-wrong b (past_end d m p s) =
      let a = one-stop (full-stop b refl) (full-stop d m) in
      omega (arith, s, ap length a.left_is)

  -- rows that are laid out in the same bytes have the same codes, under one root that is told
  pub laid-same : (stored found : List ℕ) (rows others : List Row) → AreLaid bs stored rows → AreLaid bs found others → (stored ≡ found) × (each row_code rows ≡ each row_code others)
  laid-same stored found rows others b d =
      let a = one-stop (full-stop b refl) (full-stop d refl) in
      (a.root_is, a.codes)

  pub other-once : (stored found s f : List ℕ) → HasOtherRoot bs stored found → HasOtherRoot bs s f → (stored ≡ s) × (found ≡ f)
  other-once stored found s f h k =
      let a = laid-same stored s h.rows k.rows h.begins k.begins in
      (a.0, h.is ∙ root-same h.rows k.rows h.begins.order.storable k.begins.order.storable a.1 ∙ sym k.is)

  pub right-root : (stored found : List ℕ) (rows : List Row) → AreLaid bs (root rows) rows → HasOtherRoot bs stored found → ⊥
  right-root stored found rows b h =
      let a = laid-same (root rows) stored rows h.rows b h.begins in
      h.differs (sym a.0 ∙ root-same rows h.rows b.order.storable h.begins.order.storable a.1 ∙ sym h.is)
