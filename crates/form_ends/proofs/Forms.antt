-- The steps of descent through the forms that hold several constituents.
use Rattle.std.proofs.Common.{◌≡◌, ◌-◌, ◌+◌, max, map, ◌++◌, ℕ, List, ◌∷◌, [], Result, Ok, Err, refl, true, false}
use Rattle.std.proofs.lemmas.Bool.{false≢true}
use Rattle.std.specs.Prelude.{IsOk, MatchResult, OnOk}
use Rattle.std.specs.declared.alloc.Global.{Global}
use Rattle.std.specs.declared.vec.Vec.{Vec}
use Rattle.calculus.specs.Meaning.{bind_written, case_written, name_written, pat_written, proc_written}
use Rattle.calculus.specs.Written.{Written}
use Rattle.calculus.specs.declared.plain.Kind.{Kind}
use Rattle.calculus.specs.declared.process.Bind.{Bind}
use Rattle.calculus.specs.declared.process.Case.{Case}
use Rattle.calculus.specs.declared.process.Name.{Name}
use Rattle.calculus.specs.declared.process.Pat.{Pat}
use Rattle.calculus.specs.declared.process.Proc.{Proc}
use Rattle.form_steps.specs.Handing.{Completes, HandsOn, HandsOnPart}
use Rattle.form_steps.specs.Parts.{branches, contract_body, contract_left}
use Rattle.form_steps.proofs.Handed.{both_read, mark_as, resume, then_on, under_read}
use Rattle.form_steps.proofs.Turning.{chosen}
use Rattle.grammar.specs.declared.dialect.Dialect.TheVariants.{Tutorial}
use Rattle.grammar.specs.declared.fault.Fault.{Fault}
use Rattle.grammar.specs.declared.mark.Mark.{Mark}
use Rattle.grammar.specs.declared.mark.Mark.TheVariants as marks
use Rattle.grammar.specs.Choice.{choose}
use Rattle.grammar.specs.Descent.{Outcome, Runs, Takes, shows, runs_last, runs_sign}
use Rattle.grammar.specs.Grammar.{arrow_mark, is_no_minus, rule}
use Rattle.grammar.specs.Productions.{Prod}
use Rattle.grammar.specs.Rules.{Separator, Sort, Rule, done, last, separator_mark, sign, under}
use Rattle.grammar.specs.Terminals.{Terminal, sees}
use Rattle.grammar.specs.Values.{Spelt, bind_of, case_of, contract_of, if_of, nil, opened, processes}
use Rattle.rho_lexer.specs.declared.token.Token.{Token}
use Rattle.form_parts.specs.declared.part.Left.{Left}
use Rattle.form_parts.specs.declared.part.Part.{Part}
use Rattle.form_parts.specs.Forms.{left_written}
use Rattle.token_cursor.specs.Meaning.{view}
use Rattle.token_cursor.specs.Reading.{Makes, Turns, of_bind, of_left, of_name, of_pat, of_proc, sees_bind}
use Rattle.form_ends.specs.Reading.{Appends, ReadsBind, bind_then, received}
use Rattle.form_ends.proofs.Carried.{closed, stayed}
use Rattle.form_ends.proofs.Cycle.{appended, binds_off, binds_on, first_on, passed, signed}
use Rattle.form_ends.proofs.Remains.{case_body, first_channel, last_branch, receive_body}

-- a further bind that was read, or not
pub bind_read : {ts vs : List Terminal} (free : ℕ) (us ws : List Terminal) (pats : Result (Part Left) Fault) (channel : Result (Part Name) Fault) (res : Result (Part Bind) Fault) (k : Kind) (m : Mark) (left : Part Left)
    → m ≡ arrow_mark k
    → Makes (free - 1) (rule Tutorial (choose Sort.Left ts)) of_left ts pats us
    → ((n : ℕ) (r : Rule) (xs : List Terminal) (next : Part Left → Rule) → Turns n r (λ x. sign m (next x)) xs pats us → Turns n r next xs (Ok left) vs)
    → Makes (free - 1) (rule Tutorial (choose Sort.Name vs)) of_name vs channel ws
    → HandsOn channel (λ n. bind_of (of_left left) (of_name n)) res of_bind
    → ReadsBind free k ts res ws
bind_read {ts} {vs} free us ws pats channel res k m left e g t h b = λ after.
    resume ws (λ x. after (of_bind x)) res
    (t free (bind_then k after) ts (λ l. under Sort.Name (λ n. after (bind_of (of_left l) n)))
    (mark_as free (bind_then k after) ts us (λ l. under Sort.Name (λ n. after (bind_of (of_left l) n))) pats m (arrow_mark k) e
    (under_read free Sort.Left us of_left (λ l. sign (arrow_mark k) (under Sort.Name (λ n. after (bind_of l n)))) pats g)))
    (b free (under Sort.Name (λ n. after (bind_of (of_left left) n))) vs ws after (under_read free Sort.Name ws of_name (λ n. after (bind_of (of_left left) n)) channel h))

-- where its patterns or its arrow were not
pub no_bind : {ts : List Terminal} (free : ℕ) (us vs : List Terminal) (pats : Result (Part Left) Fault) (k : Kind) (m : Mark) (after : Spelt → Rule) (left : Result (Part Left) Fault)
    → m ≡ arrow_mark k
    → Makes (free - 1) (rule Tutorial (choose Sort.Left ts)) of_left ts pats us
    → ((n : ℕ) (r : Rule) (xs : List Terminal) (next : Part Left → Rule) → Turns n r (λ x. sign m (next x)) xs pats us → Turns n r next xs left vs)
    → Turns free (bind_then k after) (λ l. under Sort.Name (λ n. after (bind_of (of_left l) n))) ts left vs
no_bind {ts} free us vs pats k m after left e g t =
    t free (bind_then k after) ts (λ l. under Sort.Name (λ n. after (bind_of (of_left l) n)))
    (mark_as free (bind_then k after) ts us (λ l. under Sort.Name (λ n. after (bind_of (of_left l) n))) pats m (arrow_mark k) e
    (under_read free Sort.Left us of_left (λ l. sign (arrow_mark k) (under Sort.Name (λ n. after (bind_of l n)))) pats g))

-- one more bind
more_binds : {ts us : List Terminal} (free : ℕ) (vs : List Terminal) (next : Result (Part Bind) Fault) (k : Kind) (m : Separator) (left : ℕ) (xs : List Bind) (h : ℕ) (res : Result (Part (Vec Bind Global)) Fault)
    → sees_bind m left ts ≡ true → Takes (separator_mark m) ts us
    → ReadsBind free k us next vs
    → HandsOnPart next (λ x. xs ++ (x ∷ [])) (max h) res (λ q. q.items)
    → Turns free (rule Tutorial (choose (Sort.BindsTail k m left (map bind_written xs) h) ts)) (λ q. last (Sort.BindsTail k m (left - 1) (map bind_written q.value.items) q.height)) ts res vs
more_binds {ts} {us} free vs next k m left xs h res s t g n =
    resume vs (λ (q : Part (Vec Bind Global)). last (Sort.BindsTail k m (left - 1) (map bind_written q.value.items) q.height)) res
    (λ out r. binds_on k m left (map bind_written xs) h s (runs_sign t (runs_last r)))
    (n free _ us vs (λ bs i. last (Sort.BindsTail k m (left - 1) (map bind_written bs) i))
    (appended free _ us vs bind_written (λ bs i. last (Sort.BindsTail k m (left - 1) bs i)) xs h next
    (g (λ b. last (Sort.BindsTail k m (left - 1) (map bind_written xs ++ (b.tree ∷ [])) (max h b.height))))))

-- one more bind after those that were read, or not
pub binds_go_on : {ts us : List Terminal} (free : ℕ) (r : Rule) (t0 vs : List Terminal) (before : Result (Part (Vec Bind Global)) Fault) (next : Result (Part Bind) Fault) (k : Kind) (m : Separator) (left : ℕ) (res : Result (Part (Vec Bind Global)) Fault)
    → IsOk before → sees_bind m left ts ≡ true → Takes (separator_mark m) ts us
    → Turns free r (λ q. last (Sort.BindsTail k m left (map bind_written q.value.items) q.height)) t0 before ts
    → ReadsBind free k us next vs → Appends before next res
    → Turns free r (λ q. last (Sort.BindsTail k m (left - 1) (map bind_written q.value.items) q.height)) t0 res vs
binds_go_on free r t0 vs (Ok xs) next k m left res i s t g n a =
    resume vs (λ (q : Part (Vec Bind Global)). last (Sort.BindsTail k m (left - 1) (map bind_written q.value.items) q.height)) res
    (λ out h. g out (runs_last h)) (more_binds free vs next k m left xs.value.items xs.height res s t n (a xs refl))
binds_go_on free r t0 vs (Err d) next k m left res i s t g n a = absurd (false≢true i)

-- the patterns of a first bind and its arrow
pub for_begun : {free : ℕ} {r : Rule} {t0 t2 : List Terminal} (t3 t4 : List Terminal) (pats : Result (Part Left) Fault) (k : Kind) (m : Mark) (left : Result (Part Left) Fault)
    → ((out : Outcome) → Runs Tutorial free (under Sort.Left (λ l. last (Sort.Arrow l))) t2 out → Runs Tutorial free r t0 out)
    → Makes (free - 1) (rule Tutorial (choose Sort.Left t2)) of_left t2 pats t3
    → ((l : Spelt) → choose (Sort.Arrow l) t3 ≡ Prod.arrow l k) → m ≡ arrow_mark k
    → ((n : ℕ) (r : Rule) (xs : List Terminal) (next : Part Left → Rule) → Turns n r (λ x. sign m (next x)) xs pats t3 → Turns n r next xs left t4)
    → Turns free r (λ l. first_channel k (of_left l)) t0 left t4
for_begun {free} {r} {t0} {t2} t3 t4 pats k m left c g a e t =
    resume t4 (λ l. first_channel k (of_left l)) left c
    (t free _ t2 (λ l. first_channel k (of_left l))
    (then_on _ t2 (λ l. last (Sort.Arrow (of_left l))) (λ l. sign m (first_channel k (of_left l))) pats
    (λ l out q. runs_last (chosen (choose (Sort.Arrow (of_left l)) t3) (Prod.arrow (of_left l) k) (a (of_left l)) (signed e q)))
    (under_read free Sort.Left t3 of_left (λ l. last (Sort.Arrow l)) pats g)))

-- the first bind
pub first_bind : {free : ℕ} {r : Rule} {t0 ts : List Terminal} (us : List Terminal) (channel : Result (Part Name) Fault) (bind : Result (Part Bind) Fault) (k : Kind) (m : Separator) (left : Part Left) (res : Result (Part (Vec Bind Global)) Fault)
    → ((out : Outcome) → Runs Tutorial free (first_channel k (of_left left)) ts out → Runs Tutorial free r t0 out)
    → Makes (free - 1) (rule Tutorial (choose Sort.Name ts)) of_name ts channel us
    → HandsOn channel (λ n. bind_of (of_left left) (of_name n)) bind of_bind
    → ((j : Kind) (b : Spelt) → rule Tutorial (choose (Sort.FirstTail j b) us) ≡ rule Tutorial (choose (Sort.BindsTail j m 15 (b.tree ∷ []) b.height) us))
    → HandsOnPart bind (λ x. x ∷ []) (λ h. h) res (λ q. q.items)
    → Turns free r (λ q. last (Sort.BindsTail k m 15 (map bind_written q.value.items) q.height)) t0 res us
first_bind {free} {r} {t0} {ts} us channel bind k m left res c g b e f =
    resume us (λ (q : Part (Vec Bind Global)). last (Sort.BindsTail k m 15 (map bind_written q.value.items) q.height)) res c
    (f free _ ts us (λ bs h. last (Sort.BindsTail k m 15 (map bind_written bs) h))
    (then_on _ ts (λ x. last (Sort.FirstTail k (of_bind x))) (λ x. last (Sort.BindsTail k m 15 (map bind_written (x.value ∷ [])) x.height)) bind
    (λ x out q. first_on k (of_bind x) m (e k (of_bind x)) q)
    (b free _ ts us (λ x. last (Sort.FirstTail k x)) (under_read free Sort.Name us of_name (λ n. last (Sort.FirstTail k (bind_of (of_left left) n))) channel g))))

-- the name of a contract and what it receives
pub contract_begun : {free : ℕ} {r : Rule} {t0 t1 t3 : List Terminal} (t2 t4 t5 : List Terminal) (channel : Result (Part Name) Fault) (left : Result (Part Left) Fault) (name : Part Name) (res : Result (Part Name × Part Left) Fault)
    → ((out : Outcome) → Runs Tutorial free (under Sort.Name (λ n. sign marks.Open (contract_left n))) t1 out → Runs Tutorial free r t0 out)
    → Makes (free - 1) (rule Tutorial (choose Sort.Name t1)) of_name t1 channel t2
    → ((n : ℕ) (r : Rule) (xs : List Terminal) (next : Part Name → Rule) → Turns n r (λ x. sign marks.Open (next x)) xs channel t2 → Turns n r next xs (Ok name) t3)
    → Makes (free - 1) (rule Tutorial (choose Sort.Left t3)) of_left t3 left t4
    → ((after : Spelt → Spelt → Rule) (n : ℕ) (r : Rule) (xs : List Terminal) → Turns n r (λ l. sign marks.Close (sign marks.Assign (after (of_name name) (of_left l)))) xs left t4
    → Turns n r (λ h. after (of_name h.0) (of_left h.1)) xs res t5)
    → Turns free r (λ h. contract_body (of_name h.0) (of_left h.1)) t0 res t5
contract_begun {free} {r} {t0} {t1} {t3} t2 t4 t5 channel left name res o g m h c =
    resume t5 (λ (x : Part Name × Part Left). contract_body (of_name x.0) (of_left x.1)) res
    (λ out q. o out (m free (under Sort.Name (λ n. sign marks.Open (contract_left n))) t1 (λ n. contract_left (of_name n)) (under_read free Sort.Name t2 of_name (λ n. sign marks.Open (contract_left n)) channel g) out q))
    (c contract_body free (contract_left (of_name name)) t3 (under_read free Sort.Left t4 of_left (λ l. sign marks.Close (sign marks.Assign (contract_body (of_name name) l))) left h))

-- where the name or a parenthesis after it was not read
pub contract_named : {free : ℕ} {r : Rule} {t0 t1 : List Terminal} (t2 t3 : List Terminal) (channel : Result (Part Name) Fault) (name : Result (Part Name) Fault)
    → ((out : Outcome) → Runs Tutorial free (under Sort.Name (λ n. sign marks.Open (contract_left n))) t1 out → Runs Tutorial free r t0 out)
    → Makes (free - 1) (rule Tutorial (choose Sort.Name t1)) of_name t1 channel t2
    → ((n : ℕ) (r : Rule) (xs : List Terminal) (next : Part Name → Rule) → Turns n r (λ x. sign marks.Open (next x)) xs channel t2 → Turns n r next xs name t3)
    → Turns free r (λ n. contract_left (of_name n)) t0 name t3
contract_named {free} {r} {t0} {t1} t2 t3 channel name o g m =
    resume t3 (λ n. contract_left (of_name n)) name o
    (m free (under Sort.Name (λ n. sign marks.Open (contract_left n))) t1 (λ n. contract_left (of_name n)) (under_read free Sort.Name t2 of_name (λ n. sign marks.Open (contract_left n)) channel g))

-- and its body
pub contract_read : {free : ℕ} {r : Rule} {t0 ts : List Terminal} (us : List Terminal) (body res : Result (Part Proc) Fault) (head : Part Name × Part Left)
    → ((out : Outcome) → Runs Tutorial free (contract_body (of_name head.0) (of_left head.1)) ts out → Runs Tutorial free r t0 out)
    → Makes (free - 1) (rule Tutorial (choose Sort.One ts)) of_proc ts body us
    → Completes body (λ p. done (opened (contract_of (name_written head.0.value) (left_written head.1.value) (of_proc p).tree) (max (max head.0.height head.1.height) p.height))) of_proc res
    → Makes free r of_proc t0 res us
contract_read {free} {r} {t0} {ts} us body res head c g m =
    m free r t0 us (resume us (λ p. done (opened (contract_of (name_written head.0.value) (left_written head.1.value) (of_proc p).tree) (max (max head.0.height head.1.height) p.height))) body c
    (under_read free Sort.One us of_proc (λ p. done (opened (contract_of (name_written head.0.value) (left_written head.1.value) p.tree) (max (max head.0.height head.1.height) p.height))) body g))

-- the condition of an `if`
pub test_read : {free : ℕ} {r : Rule} {t0 t2 : List Terminal} (t3 t4 : List Terminal) (condition : Result (Part Proc) Fault) (test : Result (Part Proc) Fault)
    → ((out : Outcome) → Runs Tutorial free (under (Sort.Par processes) (λ e. sign marks.Close (branches e))) t2 out → Runs Tutorial free r t0 out)
    → Makes (free - 1) (rule Tutorial (choose (Sort.Par processes) t2)) of_proc t2 condition t3
    → ((n : ℕ) (r : Rule) (xs : List Terminal) (next : Part Proc → Rule) → Turns n r (λ x. sign marks.Close (next x)) xs condition t3 → Turns n r next xs test t4)
    → Turns free r (λ e. branches (of_proc e)) t0 test t4
test_read {free} {r} {t0} {t2} t3 t4 condition test c g m =
    resume t4 (λ e. branches (of_proc e)) test c
    (m free (under (Sort.Par processes) (λ e. sign marks.Close (branches e))) t2 (λ e. branches (of_proc e)) (under_read free (Sort.Par processes) t3 of_proc (λ e. sign marks.Close (branches e)) condition g))

-- and its first branch
pub arms_read : {free : ℕ} {r : Rule} {t0 ts : List Terminal} (us : List Terminal) (second : Result (Part Proc) Fault) (test : Part Proc) (res : Result (Part Proc × Part Proc) Fault)
    → ((out : Outcome) → Runs Tutorial free (branches (of_proc test)) ts out → Runs Tutorial free r t0 out)
    → Makes (free - 1) (rule Tutorial (choose Sort.Two ts)) of_proc ts second us
    → MatchResult res (λ p. (p.0 ≡ test) × (second ≡ Ok p.1)) (λ e. second ≡ Err e)
    → Turns free r (λ q. last_branch (of_proc q.0) (of_proc q.1)) t0 res us
arms_read {free} {r} {t0} {ts} us second test res c g m =
    resume us (λ (q : Part Proc × Part Proc). last_branch (of_proc q.0) (of_proc q.1)) res c
    (both_read free Sort.Two us of_proc (λ (e : Part Proc) p. last_branch (of_proc e) p) test second res m g)

-- an `if` without `else`
pub arms_ended : {ts us : List Terminal} (free : ℕ) (r : Rule) (t0 : List Terminal) (arms : Result (Part Proc × Part Proc) Fault) → us ≡ ts → OnOk arms (sees marks.Else ts ≡ false)
    → Turns free r (λ q. last_branch (of_proc q.0) (of_proc q.1)) t0 arms ts
    → Turns free r (λ q. done (opened (if_of (proc_written q.0.value) (proc_written q.1.value) nil) (max q.0.height q.1.height))) t0 arms us
arms_ended free r t0 arms m s t = stayed free r t0 (λ (q : Part Proc × Part Proc). done (opened (if_of (proc_written q.0.value) (proc_written q.1.value) nil) (max q.0.height q.1.height))) arms m
    (closed r t0 (λ (q : Part Proc × Part Proc). last_branch (of_proc q.0) (of_proc q.1)) (λ (q : Part Proc × Part Proc). done (opened (if_of (proc_written q.0.value) (proc_written q.1.value) nil) (max q.0.height q.1.height))) arms s (λ q c out h. runs_last (rw c h)) t)

-- and with it
pub with_else : {free : ℕ} {t0 ts us : List Terminal} (r : Rule) (vs : List Terminal) (other res : Result (Part Proc) Fault) (arms : Result (Part Proc × Part Proc) Fault) → IsOk arms → sees marks.Else ts ≡ true → Takes marks.Else ts us
    → Turns free r (λ q. last_branch (of_proc q.0) (of_proc q.1)) t0 arms ts
    → Makes (free - 1) (rule Tutorial (choose Sort.One us)) of_proc us other vs
    → ((q : Part Proc × Part Proc) → arms ≡ Ok q → Completes other (λ p. done (opened (if_of (proc_written q.0.value) (proc_written q.1.value) (of_proc p).tree) (max (max q.0.height q.1.height) p.height))) of_proc res)
    → Makes free r of_proc t0 res vs
with_else {free} {t0} {ts} {us} r vs other res (Ok q) i s m t g n =
    n q refl free r t0 vs
    (resume vs (λ p. done (opened (if_of (proc_written q.0.value) (proc_written q.1.value) (of_proc p).tree) (max (max q.0.height q.1.height) p.height))) other
    (λ out h. t out (runs_last (rw s (runs_sign m h))))
    (under_read free Sort.One vs of_proc (λ p. done (opened (if_of (proc_written q.0.value) (proc_written q.1.value) p.tree) (max (max q.0.height q.1.height) p.height))) other g))
with_else r vs other res (Err d) i s m t g n = absurd (false≢true i)

-- the pattern of a case
pub case_begun : {xs ys : List Token} (free : ℕ) (us vs : List Terminal) (found : Result (Part Pat) Fault) (v : Spelt) (cs : List Written) (h : ℕ) (pattern : Result (Part Pat) Fault)
    → shows is_no_minus (view xs) ≡ true → ys ≡ xs
    → Makes (free - 1) (rule Tutorial (choose Sort.POne (view ys))) of_pat (view ys) found us
    → ((n : ℕ) (r : Rule) (zs : List Terminal) (next : Part Pat → Rule) → Turns n r (λ x. sign marks.FatArrow (next x)) zs found us → Turns n r next zs pattern vs)
    → Turns free (rule Tutorial (Prod.case v cs h)) (λ p. case_body v cs h (of_pat p)) (view xs) pattern vs
case_begun {xs} {ys} free us vs found v cs h pattern s e g m =
    resume vs (λ p. case_body v cs h (of_pat p)) pattern (λ out r. passed s e r)
    (m free (under Sort.POne (λ p. sign marks.FatArrow (case_body v cs h p))) (view ys) (λ p. case_body v cs h (of_pat p)) (under_read free Sort.POne us of_pat (λ p. sign marks.FatArrow (case_body v cs h p)) found g))

-- and its body
pub case_read : {free : ℕ} {r : Rule} {t0 ts : List Terminal} (us : List Terminal) (body : Result (Part Proc) Fault) (case : Result (Part Case) Fault) (res : Result (Part (Vec Case Global)) Fault) (v : Spelt) (cs : List Case) (h : ℕ) (pattern : Part Pat)
    → ((out : Outcome) → Runs Tutorial free (case_body v (map case_written cs) h (of_pat pattern)) ts out → Runs Tutorial free r t0 out)
    → Makes (free - 1) (rule Tutorial (choose Sort.One ts)) of_proc ts body us
    → HandsOnPart body (λ p. case_of (pat_written pattern.value) (proc_written p)) (max pattern.height) case case_written
    → HandsOnPart case (λ x. cs ++ (x ∷ [])) (max h) res (λ q. q.items)
    → Turns free r (λ d. last (Sort.CaseTail v (map case_written d.value.items) d.height)) t0 res us
case_read {free} {r} {t0} {ts} us body case res v cs h pattern c g b m =
    resume us (λ (d : Part (Vec Case Global)). last (Sort.CaseTail v (map case_written d.value.items) d.height)) res c
    (m free _ ts us (λ ds k. last (Sort.CaseTail v (map case_written ds) k))
    (appended free _ ts us case_written (λ ds k. last (Sort.CaseTail v ds k)) cs h case
    (b free _ ts us (λ w k. last (Sort.CaseTail v (map case_written cs ++ (w ∷ [])) (max h k)))
    (under_read free Sort.One us of_proc (λ p. last (Sort.CaseTail v (map case_written cs ++ (case_of (pat_written pattern.value) p.tree ∷ [])) (max h (max pattern.height p.height)))) body g))))

-- the end of the binds
pub binds_closed : {ts us : List Terminal} (free : ℕ) (r : Rule) (t0 vs : List Terminal) (k : Kind) (m : Separator) (left : ℕ) (binds head : Result (Part (Vec Bind Global)) Fault)
    → OnOk binds (sees_bind m left ts ≡ false) → us ≡ ts
    → Turns free r (λ q. last (Sort.BindsTail k m left (map bind_written q.value.items) q.height)) t0 binds ts
    → ((n : ℕ) (q : Rule) (xs : List Terminal) (next : Part (Vec Bind Global) → Rule) → Turns n q (λ x. sign marks.Close (sign marks.OpenBrace (next x))) xs binds us → Turns n q next xs head vs)
    → Turns free r (λ q. receive_body k (map bind_written q.value.items) q.height) t0 head vs
binds_closed {ts} {us} free r t0 vs k m left binds head s e g t =
    t free r t0 (λ (q : Part (Vec Bind Global)). receive_body k (map bind_written q.value.items) q.height)
    (stayed free r t0 (λ (q : Part (Vec Bind Global)). sign marks.Close (sign marks.OpenBrace (receive_body k (map bind_written q.value.items) q.height))) binds e
    (closed r t0 (λ (q : Part (Vec Bind Global)). last (Sort.BindsTail k m left (map bind_written q.value.items) q.height)) (λ (q : Part (Vec Bind Global)). sign marks.Close (sign marks.OpenBrace (receive_body k (map bind_written q.value.items) q.height))) binds s
    (λ x n out h. runs_last (binds_off k m left (map bind_written x.value.items) x.height n (runs_last h))) g))

-- and the body after them
pub receive_read : {free : ℕ} {r : Rule} {t0 ts : List Terminal} (us vs : List Terminal) (body res : Result (Part Proc) Fault) (k : Kind) (head : Part (Vec Bind Global))
    → ((out : Outcome) → Runs Tutorial free (receive_body k (map bind_written head.value.items) head.height) ts out → Runs Tutorial free r t0 out)
    → Makes (free - 1) (rule Tutorial (choose (Sort.Par processes) ts)) of_proc ts body us
    → ((n : ℕ) (q : Rule) (xs : List Terminal) → Turns n q (λ p. received k (map bind_written head.value.items) head.height (of_proc p)) xs body us → Makes n q of_proc xs res vs)
    → Makes free r of_proc t0 res vs
receive_read {free} {r} {t0} {ts} us vs body res k head c g m =
    m free r t0 (resume us (λ p. received k (map bind_written head.value.items) head.height (of_proc p)) body c
    (under_read free (Sort.Par processes) us of_proc (received k (map bind_written head.value.items) head.height) body g))
