-- Whole runs of calls for a further ticket.
use Rattle.std.proofs.Common.{◌≡◌, ◌∙◌, ℕ, ℤ, ◌+◌, ◌≤◌, List, Option, None, Result, Ok, Err, ◌==◌, ap, sym, subst, inl, inr, arith}
use Rattle.krb_client.proofs.ServiceRunning.{left, step_left}
use Rattle.krb_client.proofs.Running.{run_count, unset}
use Rattle.krb_client.specs.Runs.{sent_by}
use Rattle.krb_client.specs.ServiceRuns.{requests_in as requests_of_step}
use Rattle.krb_client.specs.Types.{ServiceTypes}
use Rattle.krb_client.specs.declared.moment.Moment.{Moment}
use Rattle.krb_client.specs.declared.service.ServiceStep.{ServiceStep}
use Rattle.krb_client.specs.declared.service.ServiceStep.TheVariants as steps
use Rattle.krb_client.specs.declared.terms.ByTicket.{ByTicket}
use Rattle.krb_client_rules.specs.declared.asked.Asked.{Asked}
use Rattle.krb_client_rules.specs.declared.key.Key.{Key}
use Rattle.krb_der_core.specs.declared.der.DerEncode.{Ghosts as EncodingOf}
use Rattle.krb_messages.specs.declared.messages.replies.EncKdcRepPart.{EncKdcRepPart}
use Rattle.krb_types.specs.declared.data_types.tickets.TicketInner.{TicketInner}
use Rattle.krb_c_client.specs.CallRuns.{FurtherCall, FurtherCalls, IsFurtherCall, further_requests, requests_in, requests_told}
use Rattle.krb_c_client.specs.Exchanges.{written}
use Rattle.krb_c_client.specs.Followed.{TellsFurther}
use Rattle.krb_c_client.specs.Inputs.{Inputs}
use Rattle.krb_c_client.specs.Means.{Lent}
use Rattle.krb_c_client.specs.Records.{broken}
use Rattle.krb_c_client.specs.Service.{FollowsFurther, GoesOn, IsFurtherOutcome, Opens, RefusesFurther, begins, begins_not, exchange_of, goes_not_on, goes_on, no_means, not_in_turn, not_prepared}
use Rattle.krb_c_client.specs.Telling.{Tells}
use Rattle.krb_c_client.specs.Turns.{HasBegun, IsFurtherTurn, IsUnbegun}
use Rattle.krb_c_client.specs.declared.records.ExchangeRecord.{ExchangeRecord}
use Rattle.krb_c_client.specs.declared.records.FollowedRecord.{FollowedRecord}
use Rattle.krb_c_client.specs.declared.refusal.Refusal.{Refusal}
use Rattle.krb_c_client.specs.declared.tell.Followed.{Followed}
use Rattle.krb_c_client.proofs.Counting.{begun_none, done_begun, done_count, one_if, one_most, refused_begun, refused_count, timeless, timeless_read, timeless_written, unbegun, written_begun}

-- how many more requests are handed out at most: the first one, and one for the KDC's time
abbrev unsent : ExchangeRecord → ℕ
unsent r = unbegun r + timeless r

unsent_written : (offset : Option ℤ) (nonce : ℕ) → unsent (written offset nonce None) ≡ unset offset
unsent_written offset nonce =
    let of_offset : timeless (written offset nonce None) ≡ unset offset = timeless_written offset in
    omega (arith, of_offset)

module _ (tickets : EncodingOf TicketInner) (parts : EncodingOf EncKdcRepPart) (t : ServiceTypes) where
  step_told : (step : ServiceStep) (told : FollowedRecord) (octets : List ℕ) → TellsFurther tickets parts step told octets
      → requests_told 0 told ≡ requests_of_step (Ok step)
  step_told (steps.Send request) told octets is = ap (λ (r : FollowedRecord). requests_told 0 r) is.0
  step_told (steps.Granted g) told octets is = ap (λ (r : FollowedRecord). requests_told 0 r) is.told_is
  step_told steps.Wait told octets is = ap (λ (r : FollowedRecord). requests_told 0 r) is.0

  opens_count : (i : Inputs) (by : ByTicket) (subkey : Key) (before : ExchangeRecord) (a : Asked) (m : Moment) (f : Followed) → IsUnbegun before
      → Opens t i by subkey before a m f → requests_told 0 f.told.record + unsent f.exchange ≡ unsent before
  opens_count i by subkey before a m f blank opens =
      let b = opens.is_beginning in
      let sent : requests_told 0 f.told.record ≡ 1 = ap (λ (r : FollowedRecord). requests_told 0 r) b.told_is in
      let kept : unsent f.exchange ≡ unset b.exchange.offset =
      ap (λ (r : ExchangeRecord). unsent r) b.kept ∙ unsent_written b.exchange.offset b.exchange.asked.nonce in
      let read : unset b.exchange.offset ≡ timeless before = ap (λ (o : Option ℤ). unset o) b.is_begun.offset_is ∙ timeless_read before in
      let first : unbegun before ≡ 1 = ap (λ (n : ℕ). one_if (n == 0)) blank.2 in
      omega (arith, sent, kept, read, first)

  goes_on_count : (i : Inputs) (by : ByTicket) (subkey : Key) (before : ExchangeRecord) (a : Asked) (m : Moment) (f : Followed) → HasBegun before
      → GoesOn t tickets parts i by subkey before a m f → requests_told 0 f.told.record + unsent f.exchange ≡ unsent before
  goes_on_count i by subkey before a m f begun on =
      let n = on.is_next in
      let sent : requests_told 0 f.told.record ≡ requests_of_step (Ok n.step) = step_told n.step f.told.record f.told.octets.items n.told_is in
      let kept : unsent f.exchange ≡ unset n.after.offset =
      ap (λ (r : ExchangeRecord). unsent r) n.kept ∙ unsent_written n.after.offset n.after.asked.nonce in
      let step : requests_of_step (Ok n.step) + left n.after ≡ left (exchange_of before a subkey) =
      step_left t on.terms by (exchange_of before a subkey) m i.message (Ok n.step) n.after n.is_step in
      let read : left (exchange_of before a subkey) ≡ timeless before = timeless_read before in
      let first : unbegun before ≡ 0 = begun_none before.begun begun in
      omega (arith, sent, kept, step, read, first)

  follows_count : (i : Inputs) (l : Lent) (before : ExchangeRecord) (f : Followed) → FollowsFurther t tickets parts i l before f
      → requests_told 0 f.told.record + unsent f.exchange ≡ unsent before
  follows_count i l before f (begins a m by subkey blank prepared lent absent opens) = opens_count i by subkey before a m f blank opens
  follows_count i l before f (goes_on a m by subkey begun prepared lent there on) = goes_on_count i by subkey before a m f begun on

  outcome_count : (before : ExchangeRecord) (call : FurtherCall) (after : ExchangeRecord) (outcome : Result Followed Refusal)
      → IsFurtherOutcome t tickets parts call.inputs call.lent before outcome
      → Tells outcome before after call.answered.told call.answered.out_before call.answered.out_after call.answered.size call.answered.status
      → requests_in call.answered + unsent after ≡ unsent before
  outcome_count before call after (Ok f) is tells =
      done_count (λ r. unsent r) before after call.answered f (follows_count call.inputs call.lent before f is) tells
  outcome_count before call after (Err r) is tells = refused_count (λ r. unsent r) before after call.answered r tells

  pub at_most_two : (before : ExchangeRecord) (calls : List FurtherCall) (after : ExchangeRecord) → FurtherCalls tickets parts t before calls after
      → sent_by further_requests calls ≤ 2
  at_most_two before calls after run =
      let all : sent_by further_requests calls + unsent after ≡ unsent before =
      run_count (IsFurtherCall tickets parts t) further_requests (λ r. unsent r)
      (λ x call next h. outcome_count x call next h.outcome h.is_outcome h.tells) before calls after run in
      let first : unbegun before ≤ 1 = one_most (before.begun == 0) in
      let of_offset : timeless before ≤ 1 = one_most (before.has_offset == 0) in
      omega (arith, all, first, of_offset)

  -- ---- turns

  in_turn : (i : Inputs) (l : Lent) (before : ExchangeRecord) (f : Followed) → FollowsFurther t tickets parts i l before f → IsFurtherTurn before i.message
  in_turn i l before f (begins a m by subkey blank prepared lent absent opens) = inl (absent, blank)
  in_turn i l before f (goes_on a m by subkey begun prepared lent there on) = inr (there, begun)

  refused_out : (i : Inputs) (l : Lent) (before after : ExchangeRecord) (told : FollowedRecord) (out_before out_after : List ℕ) (size status : ℕ)
      (r : Refusal) → (IsFurtherTurn before i.message → ⊥) → RefusesFurther t tickets i l before r
      → Tells (Err r) before after told out_before out_after size status → (status ≡ 42) × (told ≡ broken 1 0) × (after ≡ before)
  refused_out i l before after told out_before out_after size status r out (not_in_turn other is) tells =
      let here = subst (λ (x : Refusal). Tells (Err x) before after told out_before out_after size status) is tells in (here.0, here.1, here.2)
  refused_out i l before after told out_before out_after size status r out (not_prepared error turn prepared is) tells = absurd (out turn)
  refused_out i l before after told out_before out_after size status r out (no_means a m error turn prepared means is) tells = absurd (out turn)
  refused_out i l before after told out_before out_after size status r out (begins_not a m by subkey blank prepared lent absent opens) tells =
      absurd (out (inl (absent, blank)))
  refused_out i l before after told out_before out_after size status r out (goes_not_on a m by subkey begun prepared lent there on) tells =
      absurd (out (inr (there, begun)))

  outcome_out : (before : ExchangeRecord) (call : FurtherCall) (after : ExchangeRecord) (outcome : Result Followed Refusal)
      → IsFurtherOutcome t tickets parts call.inputs call.lent before outcome
      → Tells outcome before after call.answered.told call.answered.out_before call.answered.out_after call.answered.size call.answered.status
      → (IsFurtherTurn before call.inputs.message → ⊥) → (call.answered.status ≡ 42) × (call.answered.told ≡ broken 1 0) × (after ≡ before)
  outcome_out before call after (Ok f) is tells out = absurd (out (in_turn call.inputs call.lent before f is))
  outcome_out before call after (Err r) is tells out =
      refused_out call.inputs call.lent before after call.answered.told call.answered.out_before call.answered.out_after call.answered.size
      call.answered.status r out is tells

  pub out_of_turn : (before : ExchangeRecord) (call : FurtherCall) (after : ExchangeRecord) → IsFurtherCall tickets parts t before call after
      → (IsFurtherTurn before call.inputs.message → ⊥) → (call.answered.status ≡ 42) × (call.answered.told ≡ broken 1 0) × (after ≡ before)
  out_of_turn before call after h out = outcome_out before call after h.outcome h.is_outcome h.tells out

  follows_begun : (i : Inputs) (l : Lent) (before : ExchangeRecord) (f : Followed) → FollowsFurther t tickets parts i l before f → HasBegun f.exchange
  follows_begun i l before f (begins a m by subkey blank prepared lent absent opens) =
      let e = opens.is_beginning.exchange in
      subst (λ (x : ExchangeRecord). HasBegun x) (sym opens.is_beginning.kept) (written_begun e.offset e.asked.nonce None)
  follows_begun i l before f (goes_on a m by subkey begun prepared lent there on) =
      let e = on.is_next.after in
      subst (λ (x : ExchangeRecord). HasBegun x) (sym on.is_next.kept) (written_begun e.offset e.asked.nonce None)

  outcome_begun : (before : ExchangeRecord) (call : FurtherCall) (after : ExchangeRecord) (outcome : Result Followed Refusal)
      → IsFurtherOutcome t tickets parts call.inputs call.lent before outcome
      → Tells outcome before after call.answered.told call.answered.out_before call.answered.out_after call.answered.size call.answered.status
      → call.answered.status ≡ 0 → HasBegun after
  outcome_begun before call after (Ok f) is tells done =
      done_begun before after call.answered f (follows_begun call.inputs call.lent before f is) tells done
  outcome_begun before call after (Err r) is tells done = refused_begun before after call.answered r tells done

  pub has_begun : (before : ExchangeRecord) (call : FurtherCall) (after : ExchangeRecord) → IsFurtherCall tickets parts t before call after
      → call.answered.status ≡ 0 → HasBegun after
  has_begun before call after h done = outcome_begun before call after h.outcome h.is_outcome h.tells done
