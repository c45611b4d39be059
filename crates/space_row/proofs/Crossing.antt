-- A process may cross threads, and so may a row that may be stored.
use denote.Param.Send.{IsSend, IsSync, sendable, recorded_send, recorded_sync, enum_send, enum_sync, EachSend, EachSync}
use denote.RattleType.{RattleType}
use denote.Enum.Declared as E
use denote.Model.Local.{Parts, rows}
use denote.Model.Goals.{send, sync, has_of, part_has}
use denote.Model.Marks.{tied_send, tied_sync}
use Rattle.std.proofs.Crossing.{crosses}
use Rattle.std.proofs.MapsCrossing.{crosses as text_crosses}
use Rattle.rho_term.specs.declared.term.Term.TheDeep.{the_members, member-Term, member-TermPat}
use Rattle.rho_term.specs.contracts.term.Term.TheKnot as knot
use Rattle.space_row.specs.contracts.row.Row as Row

layer_part-send : (r0 r1 r2 r3 r4 r5 r6 r7 r8 r9 r10 r11 r12 r13 r14 r15 r16 : RattleType) → IsSend r0 → IsSend r1 → IsSend r2 → IsSend r3 → IsSend r4 → IsSend r5 → IsSend r6 → IsSend r7 → IsSend r8 → IsSend r9 → IsSend r10 → IsSend r11 → IsSend r12 → IsSend r13 → IsSend r14 → IsSend r15 → IsSend r16 → IsSend (knot.layer-Part r0 r1 r2 r3 r4 r5 r6 r7 r8 r9 r10 r11 r12 r13 r14 r15 r16)
layer_part-send r0 r1 r2 r3 r4 r5 r6 r7 r8 r9 r10 r11 r12 r13 r14 r15 r16 s0 s1 s2 s3 s4 s5 s6 s7 s8 s9 s10 s11 s12 s13 s14 s15 s16 =
    let e : EachSend (E.shape (E.declared (knot.type-Part r0 r1 r2 r3 r4 r5 r6 r7 r8 r9 r10 r11 r12 r13 r14 r15 r16))).variants = (
      search (sendable, crosses, text_crosses) depth 40,
      (
        search (sendable, crosses, text_crosses) depth 40,
        (
          search (sendable, crosses, text_crosses) depth 40,
          (
            search (sendable, crosses, text_crosses) depth 40,
            (
              search (sendable, crosses, text_crosses) depth 40,
              (
                search (sendable, crosses, text_crosses) depth 40,
                (
                  search (sendable, crosses, text_crosses) depth 40,
                  (
                    search (sendable, crosses, text_crosses) depth 40,
                    (
                      search (sendable, crosses, text_crosses) depth 40,
                      (
                        search (sendable, crosses, text_crosses) depth 40,
                        (
                          search (sendable, crosses, text_crosses) depth 40,
                          (
                            search (sendable, crosses, text_crosses) depth 40,
                            (
                              search (sendable, crosses, text_crosses) depth 40,
                              (
                                search (sendable, crosses, text_crosses) depth 40,
                                (
                                  search (sendable, crosses, text_crosses) depth 40,
                                  (
                                    search (sendable, crosses, text_crosses) depth 40,
                                    tt,
                                  ),
                                ),
                              ),
                            ),
                          ),
                        ),
                      ),
                    ),
                  ),
                ),
              ),
            ),
          ),
        ),
      ),
    ) in recorded_send _ _ _ (E.declared (knot.type-Part r0 r1 r2 r3 r4 r5 r6 r7 r8 r9 r10 r11 r12 r13 r14 r15 r16)).to_one (enum_send (E.shape (E.declared (knot.type-Part r0 r1 r2 r3 r4 r5 r6 r7 r8 r9 r10 r11 r12 r13 r14 r15 r16))) e)

layer_patpart-send : (r0 r1 r2 r3 r4 r5 r6 r7 r8 r9 r10 r11 r12 r13 : RattleType) → IsSend r0 → IsSend r1 → IsSend r2 → IsSend r3 → IsSend r4 → IsSend r5 → IsSend r6 → IsSend r7 → IsSend r8 → IsSend r9 → IsSend r10 → IsSend r11 → IsSend r12 → IsSend r13 → IsSend (knot.layer-PatPart r0 r1 r2 r3 r4 r5 r6 r7 r8 r9 r10 r11 r12 r13)
layer_patpart-send r0 r1 r2 r3 r4 r5 r6 r7 r8 r9 r10 r11 r12 r13 s0 s1 s2 s3 s4 s5 s6 s7 s8 s9 s10 s11 s12 s13 =
    let e : EachSend (E.shape (E.declared (knot.type-PatPart r0 r1 r2 r3 r4 r5 r6 r7 r8 r9 r10 r11 r12 r13))).variants = (
      search (sendable, crosses, text_crosses) depth 40,
      (
        search (sendable, crosses, text_crosses) depth 40,
        (
          search (sendable, crosses, text_crosses) depth 40,
          (
            search (sendable, crosses, text_crosses) depth 40,
            (
              search (sendable, crosses, text_crosses) depth 40,
              (
                search (sendable, crosses, text_crosses) depth 40,
                (
                  search (sendable, crosses, text_crosses) depth 40,
                  (
                    search (sendable, crosses, text_crosses) depth 40,
                    (
                      search (sendable, crosses, text_crosses) depth 40,
                      (
                        search (sendable, crosses, text_crosses) depth 40,
                        (
                          search (sendable, crosses, text_crosses) depth 40,
                          (
                            search (sendable, crosses, text_crosses) depth 40,
                            (
                              search (sendable, crosses, text_crosses) depth 40,
                              (
                                search (sendable, crosses, text_crosses) depth 40,
                                (
                                  search (sendable, crosses, text_crosses) depth 40,
                                  (
                                    search (sendable, crosses, text_crosses) depth 40,
                                    tt,
                                  ),
                                ),
                              ),
                            ),
                          ),
                        ),
                      ),
                    ),
                  ),
                ),
              ),
            ),
          ),
        ),
      ),
    ) in recorded_send _ _ _ (E.declared (knot.type-PatPart r0 r1 r2 r3 r4 r5 r6 r7 r8 r9 r10 r11 r12 r13)).to_one (enum_send (E.shape (E.declared (knot.type-PatPart r0 r1 r2 r3 r4 r5 r6 r7 r8 r9 r10 r11 r12 r13))) e)

module _ (p : Parts knot.frame) (s : (j : the_members) → IsSend (rows knot.frame p j)) where
  pub bind-send : IsSend (knot.at-TermBind p)
  bind-send = let a = s member-Term in let b = s member-TermPat in search (sendable, crosses) depth 20

  pub case-send : IsSend (knot.at-TermCase p)
  case-send = let a = s member-Term in let b = s member-TermPat in search (sendable, crosses) depth 20

  pub part-send : IsSend (knot.at-Part p)
  part-send = let a = s member-Term in let b = s member-TermPat in let c = bind-send in let d = case-send in search (layer_part-send, sendable, crosses, text_crosses) depth 60 fits 5000

  pub term-send : IsSend (knot.view-Term p)
  term-send = let a = part-send in search (sendable, crosses) depth 40

  pub pat_part-send : IsSend (knot.at-PatPart p)
  pat_part-send = let a = s member-Term in let b = s member-TermPat in let c = part-send in search (layer_patpart-send, sendable, crosses, text_crosses) depth 60 fits 5000

  pub pat-send : IsSend (knot.view-TermPat p)
  pat-send = let a = pat_part-send in search (sendable, crosses) depth 40

  pub step-send : (i : the_members) → IsSend (rows knot.frame (knot.step p) i)
  step-send member-Term = has_of knot.frame send (knot.step p) member-Term (λ d. part_has send (knot.view-Term p) term-send d)
  step-send member-TermPat = has_of knot.frame send (knot.step p) member-TermPat (λ d. part_has send (knot.view-TermPat p) pat-send d)

pub knot-send : (i : the_members) → IsSend (rows knot.frame knot.tied i)
knot-send = tied_send knot.frame knot.step knot.sizes step-send

pub hole-send : IsSend knot.hole-Term
hole-send = knot-send member-Term

pub hole_pat-send : IsSend knot.hole-TermPat
hole_pat-send = knot-send member-TermPat

pub row-send : IsSend Row.the_row
row-send = let a = hole-send in let b = hole_pat-send in search (sendable, crosses) depth 40

layer_part-sync : (r0 r1 r2 r3 r4 r5 r6 r7 r8 r9 r10 r11 r12 r13 r14 r15 r16 : RattleType) → IsSync r0 → IsSync r1 → IsSync r2 → IsSync r3 → IsSync r4 → IsSync r5 → IsSync r6 → IsSync r7 → IsSync r8 → IsSync r9 → IsSync r10 → IsSync r11 → IsSync r12 → IsSync r13 → IsSync r14 → IsSync r15 → IsSync r16 → IsSync (knot.layer-Part r0 r1 r2 r3 r4 r5 r6 r7 r8 r9 r10 r11 r12 r13 r14 r15 r16)
layer_part-sync r0 r1 r2 r3 r4 r5 r6 r7 r8 r9 r10 r11 r12 r13 r14 r15 r16 s0 s1 s2 s3 s4 s5 s6 s7 s8 s9 s10 s11 s12 s13 s14 s15 s16 =
    let e : EachSync (E.shape (E.declared (knot.type-Part r0 r1 r2 r3 r4 r5 r6 r7 r8 r9 r10 r11 r12 r13 r14 r15 r16))).variants = (
      search (sendable, crosses, text_crosses) depth 40,
      (
        search (sendable, crosses, text_crosses) depth 40,
        (
          search (sendable, crosses, text_crosses) depth 40,
          (
            search (sendable, crosses, text_crosses) depth 40,
            (
              search (sendable, crosses, text_crosses) depth 40,
              (
                search (sendable, crosses, text_crosses) depth 40,
                (
                  search (sendable, crosses, text_crosses) depth 40,
                  (
                    search (sendable, crosses, text_crosses) depth 40,
                    (
                      search (sendable, crosses, text_crosses) depth 40,
                      (
                        search (sendable, crosses, text_crosses) depth 40,
                        (
                          search (sendable, crosses, text_crosses) depth 40,
                          (
                            search (sendable, crosses, text_crosses) depth 40,
                            (
                              search (sendable, crosses, text_crosses) depth 40,
                              (
                                search (sendable, crosses, text_crosses) depth 40,
                                (
                                  search (sendable, crosses, text_crosses) depth 40,
                                  (
                                    search (sendable, crosses, text_crosses) depth 40,
                                    tt,
                                  ),
                                ),
                              ),
                            ),
                          ),
                        ),
                      ),
                    ),
                  ),
                ),
              ),
            ),
          ),
        ),
      ),
    ) in recorded_sync _ _ _ (E.declared (knot.type-Part r0 r1 r2 r3 r4 r5 r6 r7 r8 r9 r10 r11 r12 r13 r14 r15 r16)).to_one (enum_sync (E.shape (E.declared (knot.type-Part r0 r1 r2 r3 r4 r5 r6 r7 r8 r9 r10 r11 r12 r13 r14 r15 r16))) e)

layer_patpart-sync : (r0 r1 r2 r3 r4 r5 r6 r7 r8 r9 r10 r11 r12 r13 : RattleType) → IsSync r0 → IsSync r1 → IsSync r2 → IsSync r3 → IsSync r4 → IsSync r5 → IsSync r6 → IsSync r7 → IsSync r8 → IsSync r9 → IsSync r10 → IsSync r11 → IsSync r12 → IsSync r13 → IsSync (knot.layer-PatPart r0 r1 r2 r3 r4 r5 r6 r7 r8 r9 r10 r11 r12 r13)
layer_patpart-sync r0 r1 r2 r3 r4 r5 r6 r7 r8 r9 r10 r11 r12 r13 s0 s1 s2 s3 s4 s5 s6 s7 s8 s9 s10 s11 s12 s13 =
    let e : EachSync (E.shape (E.declared (knot.type-PatPart r0 r1 r2 r3 r4 r5 r6 r7 r8 r9 r10 r11 r12 r13))).variants = (
      search (sendable, crosses, text_crosses) depth 40,
      (
        search (sendable, crosses, text_crosses) depth 40,
        (
          search (sendable, crosses, text_crosses) depth 40,
          (
            search (sendable, crosses, text_crosses) depth 40,
            (
              search (sendable, crosses, text_crosses) depth 40,
              (
                search (sendable, crosses, text_crosses) depth 40,
                (
                  search (sendable, crosses, text_crosses) depth 40,
                  (
                    search (sendable, crosses, text_crosses) depth 40,
                    (
                      search (sendable, crosses, text_crosses) depth 40,
                      (
                        search (sendable, crosses, text_crosses) depth 40,
                        (
                          search (sendable, crosses, text_crosses) depth 40,
                          (
                            search (sendable, crosses, text_crosses) depth 40,
                            (
                              search (sendable, crosses, text_crosses) depth 40,
                              (
                                search (sendable, crosses, text_crosses) depth 40,
                                (
                                  search (sendable, crosses, text_crosses) depth 40,
                                  (
                                    search (sendable, crosses, text_crosses) depth 40,
                                    tt,
                                  ),
                                ),
                              ),
                            ),
                          ),
                        ),
                      ),
                    ),
                  ),
                ),
              ),
            ),
          ),
        ),
      ),
    ) in recorded_sync _ _ _ (E.declared (knot.type-PatPart r0 r1 r2 r3 r4 r5 r6 r7 r8 r9 r10 r11 r12 r13)).to_one (enum_sync (E.shape (E.declared (knot.type-PatPart r0 r1 r2 r3 r4 r5 r6 r7 r8 r9 r10 r11 r12 r13))) e)

module _ (p : Parts knot.frame) (s : (j : the_members) → IsSync (rows knot.frame p j)) where
  pub bind-sync : IsSync (knot.at-TermBind p)
  bind-sync = let a = s member-Term in let b = s member-TermPat in search (sendable, crosses) depth 20

  pub case-sync : IsSync (knot.at-TermCase p)
  case-sync = let a = s member-Term in let b = s member-TermPat in search (sendable, crosses) depth 20

  pub part-sync : IsSync (knot.at-Part p)
  part-sync = let a = s member-Term in let b = s member-TermPat in let c = bind-sync in let d = case-sync in search (layer_part-sync, sendable, crosses, text_crosses) depth 60 fits 5000

  pub term-sync : IsSync (knot.view-Term p)
  term-sync = let a = part-sync in search (sendable, crosses) depth 40

  pub pat_part-sync : IsSync (knot.at-PatPart p)
  pat_part-sync = let a = s member-Term in let b = s member-TermPat in let c = part-sync in search (layer_patpart-sync, sendable, crosses, text_crosses) depth 60 fits 5000

  pub pat-sync : IsSync (knot.view-TermPat p)
  pat-sync = let a = pat_part-sync in search (sendable, crosses) depth 40

  pub step-sync : (i : the_members) → IsSync (rows knot.frame (knot.step p) i)
  step-sync member-Term = has_of knot.frame sync (knot.step p) member-Term (λ d. part_has sync (knot.view-Term p) term-sync d)
  step-sync member-TermPat = has_of knot.frame sync (knot.step p) member-TermPat (λ d. part_has sync (knot.view-TermPat p) pat-sync d)

pub knot-sync : (i : the_members) → IsSync (rows knot.frame knot.tied i)
knot-sync = tied_sync knot.frame knot.step knot.sizes step-sync

pub hole-sync : IsSync knot.hole-Term
hole-sync = knot-sync member-Term

pub hole_pat-sync : IsSync knot.hole-TermPat
hole_pat-sync = knot-sync member-TermPat

pub row-sync : IsSync Row.the_row
row-sync = let a = hole-sync in let b = hole_pat-sync in search (sendable, crosses) depth 40
