-- The causes for which bytes are no text of a log exclude that they are one, and one another. So bytes that have a cause are refused for it.
use Rattle.std.proofs.Common.{◌≡◌, ◌≤◌, ◌<◌, ℕ, zero, suc, ◌+◌, ◌^◌, List, [], ◌∷◌, ◌++◌, length, refl, ap, sym, ◌∙◌, arith, append_assoc, append-nil, length-append, inl, inr}
use Rattle.std.specs.Prelude.{◌⊎◌, Err, codes}
use Rattle.calculus.specs.Bytes.{be32}
use Rattle.calculus.proofs.Tails.{length-be32}
use Rattle.calculus.specs.Log.{Header, Step, header_text, log_text}
use Rattle.event_log.specs.declared.fault.LogFault.{LogFault}
use Rattle.event_log.specs.declared.fault.LogFault.TheVariants.{Short, Bad, Version, TooLong, NoMemory}
use Rattle.event_log.specs.Reading.{log_of}
use Rattle.event_log.specs.Laws.{IsHeader}
use Rattle.log_laws.specs.Laws.{IsLog, IsCutLog, EndsInCount, IsWrongAt, HasVersion, HasCount, IsCause, CausesAreTold}
use Rattle.log_laws.proofs.Lists.{same-front, longer}
use Rattle.log_laws.proofs.Fields.{header_rest}
use Rattle.log_laws.proofs.Steps.{step_texts}
use Rattle.log_laws.proofs.Fronts.{length-header, same-number, same-body, same-log, length-log}
use Rattle.log_laws.proofs.Refused.{LogOutcome, whole, refused, log-outcome, cut-name}

-- numbers of which neither is less are equal
neither-less : (i j : ℕ) → (i < j → ⊥) → (j < i → ⊥) → i ≡ j
neither-less zero zero h k = refl
neither-less zero (suc j) h k = absurd (h (omega arith))
neither-less (suc i) zero h k = absurd (k (omega arith))
neither-less (suc i) (suc j) h k = ap suc (neither-less i j (λ l. h (omega (arith, l))) (λ l. k (omega (arith, l))))

-- more bytes behind bytes that are a front and then more
behind : (front more left all : List ℕ) (bs : List ℕ) → all ≡ bs ++ left → bs ≡ front ++ more → all ≡ front ++ (more ++ left)
behind front more left all bs e f = e ∙ ap (λ z. z ++ left) f ∙ append_assoc front more left

-- no log's text goes on with a wrong byte
no-wrong : (bs : List ℕ) (at : ℕ) (w : IsWrongAt at bs) (h : Header) (ss : List Step) (y : List ℕ) → IsLog h ss → log_text h ss ≡ w.before ++ (w.byte ∷ y) → ⊥
no-wrong bs at w h ss y l e = w.stops y (record { header = h; steps = ss; log = l; is = e ∙ sym (append_assoc w.before (w.byte ∷ []) y) })

-- no header goes on with a wrong byte
header-wrong : (bs : List ℕ) (at : ℕ) (w : IsWrongAt at bs) (h : Header) (x y : List ℕ) → IsHeader h → length w.before < 111 → header_text h ++ x ≡ w.before ++ (w.byte ∷ y) → ⊥
header-wrong bs at w h x y i low e =
    let p = w.before ++ (w.byte ∷ []) in
    let s : p ++ y ≡ header_text h ++ x = append_assoc w.before (w.byte ∷ []) y ∙ sym e in
    let m = longer p (header_text h) y x (omega (arith, low, length-append w.before (w.byte ∷ []), length-header h i)) s in
    let none = be32 0 ++ [] in
    w.stops (m.0 ++ none) (record { header = h; steps = []; log = record { header = i; steps = tt; few = omega arith }; is = ap (λ z. z ++ none) m.1 ∙ append_assoc p m.0 none })

-- behind the name of a header stands the version 1
header-version : (h : Header) (v : ℕ) (x y : List ℕ) → header_text h ++ x ≡ codes "RHOLOG" ++ (v ∷ y) → v ≡ 1
header-version h v x y e =
    let s : 1 ∷ (header_rest h ++ x) ≡ v ∷ y = (same-front (codes "RHOLOG") (codes "RHOLOG") (1 ∷ (header_rest h ++ x)) (v ∷ y) refl e).1 in
    cc s

log-version : (h : Header) (ss : List Step) (v : ℕ) (y : List ℕ) → log_text h ss ≡ codes "RHOLOG" ++ (v ∷ y) → v ≡ 1
log-version h ss v y e = header-version h v (be32 (length ss) ++ step_texts ss) y e

-- no log has a number of steps that is too great
log-count : (h : Header) (ss : List Step) (g : Header) (k : ℕ) (y : List ℕ) → IsLog h ss → IsHeader g → k < 2 ^ 32 → 1048608 < k → log_text h ss ≡ header_text g ++ (be32 k ++ y) → ⊥
log-count h ss g k y l i f great e =
    let s = same-body h ss g k [] y l i f (append-nil (log_text h ss) ∙ e) in
    omega (arith, s.0, l.few, great)

-- the lengths of bytes that end within a number of steps, and of those that go on behind one
short-length : (bs : List ℕ) (c : EndsInCount bs) → length bs ≤ 114
short-length bs c = omega (arith, ap length c.is, length-append (header_text c.header) (be32 c.number), length-append bs c.left, length-header c.header c.fine, length-be32 c.number, c.some)

count-length : (bs : List ℕ) (k : ℕ) (c : HasCount k bs) → 115 ≤ length bs
count-length bs k c = omega (arith, ap length c.is, length-append (header_text c.header) (be32 k ++ c.after), length-append (be32 k) c.after, length-header c.header c.fine, length-be32 k)

wrong-length : (bs : List ℕ) (at : ℕ) (w : IsWrongAt at bs) → length bs ≡ at + suc (length w.after)
wrong-length bs at w = omega (arith, ap length w.is, length-append w.before (w.byte ∷ w.after), w.place)

low-place : (bs : List ℕ) (at : ℕ) (w : IsWrongAt at bs) → at < 6 → length w.before < 111
low-place bs at w l = omega (arith, l, w.place)

-- two causes of one kind, or of two kinds
short-wrong : (bs : List ℕ) (at : ℕ) → IsCutLog bs ⊎ EndsInCount bs → IsWrongAt at bs → ⊥
short-wrong bs at (inl c) w = no-wrong bs at w c.whole.header c.whole.steps (w.after ++ c.left) c.whole.log (behind w.before (w.byte ∷ w.after) c.left (log_text c.whole.header c.whole.steps) bs c.whole.is w.is)
short-wrong bs at (inr c) w = go w.told
  where
    go : (at < 6) ⊎ (115 ≤ at) → ⊥
    go (inl l) = header-wrong bs at w c.header (be32 c.number) (w.after ++ c.left) c.fine (low-place bs at w l) (behind w.before (w.byte ∷ w.after) c.left (header_text c.header ++ be32 c.number) bs c.is w.is)
    go (inr l) = omega (arith, l, short-length bs c, wrong-length bs at w)

short-version : (bs : List ℕ) (v : ℕ) → IsCutLog bs ⊎ EndsInCount bs → HasVersion v bs → ⊥
short-version bs v (inl c) d = d.other (log-version c.whole.header c.whole.steps v (d.after ++ c.left) (behind (codes "RHOLOG") (v ∷ d.after) c.left (log_text c.whole.header c.whole.steps) bs c.whole.is d.is))
short-version bs v (inr c) d = d.other (header-version c.header v (be32 c.number) (d.after ++ c.left) (behind (codes "RHOLOG") (v ∷ d.after) c.left (header_text c.header ++ be32 c.number) bs c.is d.is))

short-count : (bs : List ℕ) (k : ℕ) → IsCutLog bs ⊎ EndsInCount bs → HasCount k bs → ⊥
short-count bs k (inl c) d =
    let e : log_text c.whole.header c.whole.steps ≡ header_text d.header ++ (be32 k ++ (d.after ++ c.left)) =
    behind (header_text d.header) (be32 k ++ d.after) c.left (log_text c.whole.header c.whole.steps) bs c.whole.is d.is ∙ ap (λ z. header_text d.header ++ z) (append_assoc (be32 k) d.after c.left) in
    log-count c.whole.header c.whole.steps d.header k (d.after ++ c.left) c.whole.log d.fine d.fits d.great e
short-count bs k (inr c) d = omega (arith, short-length bs c, count-length bs k d)

-- of two wrong places neither is less
place-once : (bs : List ℕ) (i j : ℕ) → IsWrongAt i bs → IsWrongAt j bs → i < j → ⊥
place-once bs i j w v l =
    let p = w.before ++ (w.byte ∷ []) in
    let s : p ++ w.after ≡ v.before ++ (v.byte ∷ v.after) = append_assoc w.before (w.byte ∷ []) w.after ∙ sym w.is ∙ v.is in
    let m = longer p v.before w.after (v.byte ∷ v.after) (omega (arith, l, w.place, v.place, length-append w.before (w.byte ∷ []))) s in
    let g = v.begun.2 in
    w.stops (m.0 ++ v.begun.0) (record { header = g.header; steps = g.steps; log = g.log; is = behind p m.0 v.begun.0 (log_text g.header g.steps) v.before g.is m.1 })

wrong-version : (bs : List ℕ) (at v : ℕ) → IsWrongAt at bs → HasVersion v bs → ⊥
wrong-version bs at v w d = go w.told
  where
    go : (at < 6) ⊎ (115 ≤ at) → ⊥
    go (inl l) =
        let p = w.before ++ (w.byte ∷ []) in
        let s : p ++ w.after ≡ codes "RHOLOG" ++ (v ∷ d.after) = append_assoc w.before (w.byte ∷ []) w.after ∙ sym w.is ∙ d.is in
        let m = longer p (codes "RHOLOG") w.after (v ∷ d.after) (omega (arith, l, w.place, length-append w.before (w.byte ∷ []))) s in
        let cut = cut-name p m.0 m.1 in
        w.stops cut.left cut.whole
    go (inr l) =
        let p = codes "RHOLOG" ++ (v ∷ []) in
        let s : p ++ d.after ≡ w.before ++ (w.byte ∷ w.after) = sym d.is ∙ w.is in
        let m = longer p w.before d.after (w.byte ∷ w.after) (omega (arith, l, w.place)) s in
        let g = w.begun.2 in
        d.other (log-version g.header g.steps v (m.0 ++ w.begun.0) (behind p m.0 w.begun.0 (log_text g.header g.steps) w.before g.is m.1))

wrong-count : (bs : List ℕ) (at k : ℕ) → IsWrongAt at bs → HasCount k bs → ⊥
wrong-count bs at k w d = go w.told
  where
    go : (at < 6) ⊎ (115 ≤ at) → ⊥
    go (inl l) = header-wrong bs at w d.header (be32 k ++ d.after) w.after d.fine (low-place bs at w l) (sym d.is ∙ w.is)
    go (inr l) =
        let p = header_text d.header ++ be32 k in
        let s : p ++ d.after ≡ w.before ++ (w.byte ∷ w.after) = append_assoc (header_text d.header) (be32 k) d.after ∙ sym d.is ∙ w.is in
        let m = longer p w.before d.after (w.byte ∷ w.after) (omega (arith, l, w.place, length-append (header_text d.header) (be32 k), length-header d.header d.fine, length-be32 k)) s in
        let g = w.begun.2 in
        let e : log_text g.header g.steps ≡ header_text d.header ++ (be32 k ++ (m.0 ++ w.begun.0)) =
        behind p m.0 w.begun.0 (log_text g.header g.steps) w.before g.is m.1 ∙ append_assoc (header_text d.header) (be32 k) (m.0 ++ w.begun.0) in
        log-count g.header g.steps d.header k (m.0 ++ w.begun.0) g.log d.fine d.fits d.great e

version-once : (bs : List ℕ) (u v : ℕ) → HasVersion u bs → HasVersion v bs → u ≡ v
version-once bs u v c d =
    let s : u ∷ c.after ≡ v ∷ d.after = (same-front (codes "RHOLOG") (codes "RHOLOG") (u ∷ c.after) (v ∷ d.after) refl (sym c.is ∙ d.is)).1 in
    cc s

version-count : (bs : List ℕ) (v k : ℕ) → HasVersion v bs → HasCount k bs → ⊥
version-count bs v k c d = c.other (header-version d.header v (be32 k ++ d.after) c.after (sym d.is ∙ c.is))

count-once : (bs : List ℕ) (j k : ℕ) → HasCount j bs → HasCount k bs → j ≡ k
count-once bs j k c d = (same-number c.header d.header j k c.after d.after c.fine d.fine c.fits d.fits (sym c.is ∙ d.is)).0

one-cause : (bs : List ℕ) (e f : LogFault) → IsCause bs e → IsCause bs f → e ≡ f
one-cause bs NoMemory f c d = absurd c
one-cause bs (Short i) NoMemory c d = absurd d
one-cause bs (Bad i) NoMemory c d = absurd d
one-cause bs (Version u) NoMemory c d = absurd d
one-cause bs (TooLong j) NoMemory c d = absurd d
one-cause bs (Short i) (Short j) c d = ap Short (c.0 ∙ sym d.0)
one-cause bs (Short i) (Bad j) c d = absurd (short-wrong bs j c.1 d)
one-cause bs (Short i) (Version v) c d = absurd (short-version bs v c.1 d)
one-cause bs (Short i) (TooLong k) c d = absurd (short-count bs k c.1 d)
one-cause bs (Bad i) (Short j) c d = absurd (short-wrong bs i d.1 c)
one-cause bs (Bad i) (Bad j) c d = ap Bad (neither-less i j (place-once bs i j c d) (place-once bs j i d c))
one-cause bs (Bad i) (Version v) c d = absurd (wrong-version bs i v c d)
one-cause bs (Bad i) (TooLong k) c d = absurd (wrong-count bs i k c d)
one-cause bs (Version u) (Short j) c d = absurd (short-version bs u d.1 c)
one-cause bs (Version u) (Bad j) c d = absurd (wrong-version bs j u d c)
one-cause bs (Version u) (Version v) c d = ap Version (version-once bs u v c d)
one-cause bs (Version u) (TooLong k) c d = absurd (version-count bs u k c d)
one-cause bs (TooLong j) (Short i) c d = absurd (short-count bs j d.1 c)
one-cause bs (TooLong j) (Bad i) c d = absurd (wrong-count bs i j d c)
one-cause bs (TooLong j) (Version v) c d = absurd (version-count bs v j d c)
one-cause bs (TooLong j) (TooLong k) c d = ap TooLong (count-once bs j k c d)

-- the text of a log has no cause
log-short : (bs : List ℕ) (h : Header) (ss : List Step) → IsLog h ss → bs ≡ log_text h ss → IsCutLog bs ⊎ EndsInCount bs → ⊥
log-short bs h ss l e (inl c) =
    let g = c.whole in
    let s : [] ≡ c.left = same-log g.header g.steps h ss [] c.left g.log l (append-nil (log_text g.header g.steps) ∙ g.is ∙ ap (λ z. z ++ c.left) e) in
    omega (arith, c.some, ap length s)
log-short bs h ss l e (inr c) = omega (arith, short-length bs c, length-log h ss l, ap length e)

no-cause : (bs : List ℕ) (e : LogFault) (h : Header) (ss : List Step) → IsLog h ss → bs ≡ log_text h ss → IsCause bs e → ⊥
no-cause bs NoMemory h ss l i c = c
no-cause bs (Short at) h ss l i c = log-short bs h ss l i c.1
no-cause bs (Bad at) h ss l i c = no-wrong bs at c h ss c.after l (sym i ∙ c.is)
no-cause bs (Version v) h ss l i c = c.other (log-version h ss v c.after (sym i ∙ c.is))
no-cause bs (TooLong k) h ss l i c = log-count h ss c.header k c.after l c.fine c.fits c.great (sym i ∙ c.is)

pub causes_are_told : CausesAreTold
causes_are_told bs e ok c = go (log-outcome bs ok)
  where
    go : LogOutcome bs (log_of bs) → log_of bs ≡ Err e
    go (whole h ss l i t) = absurd (no-cause bs e h ss l i c)
    go (refused f d t) = t ∙ ap (λ z. Err z) (one-cause bs f e d c)
