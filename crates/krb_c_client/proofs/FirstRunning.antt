-- Whole runs of calls for a first ticket.
use Rattle.std.proofs.Common.{◌≡◌, ◌∙◌, ℕ, ℤ, ◌+◌, ◌≤◌, List, Option, Result, Ok, Err, nat_abs, ◌==◌, ap, sym, subst, inl, inr, arith}
use Rattle.krb_client.proofs.InitialRunning.{left, step_left}
use Rattle.krb_client.proofs.Running.{run_count, unset}
use Rattle.krb_client.specs.InitialRuns.{requests_in as requests_of_step}
use Rattle.krb_client.specs.Runs.{sent_by}
use Rattle.krb_client.specs.Types.{InitialTypes}
use Rattle.krb_client.specs.declared.initial.InitialExchange.{InitialExchange}
use Rattle.krb_client.specs.declared.initial.InitialStep.{InitialStep}
use Rattle.krb_client.specs.declared.initial.InitialStep.TheVariants as steps
use Rattle.krb_client.specs.declared.moment.Moment.{Moment}
use Rattle.krb_client_rules.specs.declared.asked.Asked.{Asked}
use Rattle.krb_client_rules.specs.declared.key.Key.{Key}
use Rattle.krb_der_core.specs.declared.der.DerEncode.{Ghosts as EncodingOf}
use Rattle.krb_messages.specs.declared.messages.replies.EncKdcRepPart.{EncKdcRepPart}
use Rattle.krb_types.specs.declared.data_types.tickets.TicketInner.{TicketInner}
use Rattle.krb_c_client.specs.CallRuns.{FirstCall, FirstCalls, IsFirstCall, first_requests, requests_in, requests_told}
use Rattle.krb_c_client.specs.Exchanges.{written}
use Rattle.krb_c_client.specs.Followed.{TellsFirst}
use Rattle.krb_c_client.specs.Initial.{FollowsFirst, GoesOn, IsFirstOutcome, IsRead, Opens, RefusesFirst, begins, begins_not, goes_not_on, goes_on, not_in_turn, not_prepared}
use Rattle.krb_c_client.specs.Inputs.{Inputs}
use Rattle.krb_c_client.specs.Records.{broken}
use Rattle.krb_c_client.specs.Telling.{Tells}
use Rattle.krb_c_client.specs.Turns.{AreZeros, HasBegun, IsFirstTurn}
use Rattle.krb_c_client.specs.declared.records.ExchangeRecord.{ExchangeRecord}
use Rattle.krb_c_client.specs.declared.records.FollowedRecord.{FollowedRecord}
use Rattle.krb_c_client.specs.declared.refusal.Refusal.{Refusal}
use Rattle.krb_c_client.specs.declared.tell.Followed.{Followed}
use Rattle.krb_c_client.proofs.Counting.{begun_none, done_begun, done_count, keyless, keyless_read, keyless_written, one_if, one_most, refused_begun, refused_count, timeless, timeless_read, timeless_written, unbegun, written_begun}

-- how many more requests are handed out at most: the first one, one for the key, and one for the KDC's time
abbrev unsent : ExchangeRecord → ℕ
unsent r = unbegun r + (keyless r + timeless r)

unsent_written : (offset : Option ℤ) (nonce : ℕ) (key : Option Key) → unsent (written offset nonce key) ≡ unset key + unset offset
unsent_written offset nonce key =
    let of_key : keyless (written offset nonce key) ≡ unset key = keyless_written key in
    let of_offset : timeless (written offset nonce key) ≡ unset offset = timeless_written offset in
    omega (arith, of_key, of_offset)

unsent_read : (r : ExchangeRecord) (a : Asked) (e : InitialExchange) → HasBegun r → IsRead r a e → unsent r ≡ left e
unsent_read r a e begun is =
    let first : unbegun r ≡ 0 = begun_none r.begun begun in
    let of_key : keyless r ≡ unset e.key = keyless_read r e.key is.key in
    let of_offset : timeless r ≡ unset e.offset = sym (timeless_read r) ∙ ap (λ (o : Option ℤ). unset o) (sym is.offset) in
    omega (arith, first, of_key, of_offset)

unsent_zeros : (r : ExchangeRecord) → AreZeros r → unsent r ≡ 3
unsent_zeros r zeros =
    let first : unbegun r ≡ 1 = ap (λ (n : ℕ). one_if (n == 0)) zeros.2.2 in
    let of_key : keyless r ≡ 1 = ap (λ (e : ℤ). one_if (nat_abs e == 0)) zeros.2.1 in
    let of_offset : timeless r ≡ 1 = ap (λ (n : ℕ). one_if (n == 0)) zeros.1 in
    omega (arith, first, of_key, of_offset)

module _ (tickets : EncodingOf TicketInner) (parts : EncodingOf EncKdcRepPart) (t : InitialTypes) where
  step_told : (step : InitialStep) (told : FollowedRecord) (octets : List ℕ) → TellsFirst tickets parts step told octets
      → requests_told 0 told ≡ requests_of_step (Ok step)
  step_told (steps.Send request) told octets is = ap (λ (r : FollowedRecord). requests_told 0 r) is.0
  step_told (steps.Granted g) told octets is = ap (λ (r : FollowedRecord). requests_told 0 r) is.told_is
  step_told steps.Wait told octets is = ap (λ (r : FollowedRecord). requests_told 0 r) is.0

  opens_count : (i : Inputs) (a : Asked) (m : Moment) (before : ExchangeRecord) (f : Followed) → AreZeros before → Opens t i a m f
      → requests_told 0 f.told.record + unsent f.exchange ≡ unsent before
  opens_count i a m before f zeros opens =
      let b = opens.is_beginning in
      let sent : requests_told 0 f.told.record ≡ 1 = ap (λ (r : FollowedRecord). requests_told 0 r) b.told_is in
      let kept : unsent f.exchange ≡ unset b.exchange.key + unset b.exchange.offset =
      ap (λ (r : ExchangeRecord). unsent r) b.kept ∙ unsent_written b.exchange.offset b.exchange.asked.nonce b.exchange.key in
      let no_key : unset b.exchange.key ≡ 1 = ap (λ (k : Option Key). unset k) b.is_begun.no_key in
      let no_offset : unset b.exchange.offset ≡ 1 = ap (λ (o : Option ℤ). unset o) b.is_begun.no_offset in
      let three : unsent before ≡ 3 = unsent_zeros before zeros in
      omega (arith, sent, kept, no_key, no_offset, three)

  goes_on_count : (i : Inputs) (password keytab : List ℕ) (a : Asked) (m : Moment) (before : ExchangeRecord) (f : Followed) → HasBegun before
      → GoesOn t tickets parts i password keytab before a m f → requests_told 0 f.told.record + unsent f.exchange ≡ unsent before
  goes_on_count i password keytab a m before f begun on =
      let e = on.exchange in
      let s = on.is_answered in
      let n = s.is_next in
      let sent : requests_told 0 f.told.record ≡ requests_of_step (Ok n.step) = step_told n.step f.told.record f.told.octets.items n.told_is in
      let kept : unsent f.exchange ≡ unset n.after.key + unset n.after.offset =
      ap (λ (r : ExchangeRecord). unsent r) n.kept ∙ unsent_written n.after.offset n.after.asked.nonce n.after.key in
      let step : requests_of_step (Ok n.step) + left n.after ≡ left e = step_left t s.terms e s.secret m i.message (Ok n.step) n.after n.is_step in
      let read : unsent before ≡ left e = unsent_read before a e begun on.is_read in
      omega (arith, sent, kept, step, read)

  follows_count : (i : Inputs) (password keytab : List ℕ) (before : ExchangeRecord) (f : Followed) → FollowsFirst t tickets parts i password keytab before f
      → requests_told 0 f.told.record + unsent f.exchange ≡ unsent before
  follows_count i password keytab before f (begins a m zeros prepared absent opens) = opens_count i a m before f zeros opens
  follows_count i password keytab before f (goes_on a m begun prepared there on) = goes_on_count i password keytab a m before f begun on

  outcome_count : (before : ExchangeRecord) (call : FirstCall) (after : ExchangeRecord) (outcome : Result Followed Refusal)
      → IsFirstOutcome t tickets parts call.inputs call.password call.keytab before outcome
      → Tells outcome before after call.answered.told call.answered.out_before call.answered.out_after call.answered.size call.answered.status
      → requests_in call.answered + unsent after ≡ unsent before
  outcome_count before call after (Ok f) is tells =
      done_count (λ r. unsent r) before after call.answered f (follows_count call.inputs call.password call.keytab before f is) tells
  outcome_count before call after (Err r) is tells = refused_count (λ r. unsent r) before after call.answered r tells

  pub at_most_three : (before : ExchangeRecord) (calls : List FirstCall) (after : ExchangeRecord) → FirstCalls tickets parts t before calls after
      → sent_by first_requests calls ≤ 3
  at_most_three before calls after run =
      let all : sent_by first_requests calls + unsent after ≡ unsent before =
      run_count (IsFirstCall tickets parts t) first_requests (λ r. unsent r)
      (λ x call next h. outcome_count x call next h.outcome h.is_outcome h.tells) before calls after run in
      let first : unbegun before ≤ 1 = one_most (before.begun == 0) in
      let of_key : keyless before ≤ 1 = one_most (nat_abs before.etype == 0) in
      let of_offset : timeless before ≤ 1 = one_most (before.has_offset == 0) in
      omega (arith, all, first, of_key, of_offset)

  -- ---- turns

  in_turn : (i : Inputs) (password keytab : List ℕ) (before : ExchangeRecord) (f : Followed) → FollowsFirst t tickets parts i password keytab before f
      → IsFirstTurn before i.message
  in_turn i password keytab before f (begins a m zeros prepared absent opens) = inl (absent, zeros)
  in_turn i password keytab before f (goes_on a m begun prepared there on) = inr (there, begun)

  refused_out : (i : Inputs) (password keytab : List ℕ) (before after : ExchangeRecord) (told : FollowedRecord) (out_before out_after : List ℕ) (size status : ℕ)
      (r : Refusal) → (IsFirstTurn before i.message → ⊥) → RefusesFirst t i password keytab before r
      → Tells (Err r) before after told out_before out_after size status → (status ≡ 42) × (told ≡ broken 1 0) × (after ≡ before)
  refused_out i password keytab before after told out_before out_after size status r out (not_in_turn other is) tells =
      let here = subst (λ (x : Refusal). Tells (Err x) before after told out_before out_after size status) is tells in (here.0, here.1, here.2)
  refused_out i password keytab before after told out_before out_after size status r out (not_prepared error turn prepared is) tells = absurd (out turn)
  refused_out i password keytab before after told out_before out_after size status r out (begins_not a m zeros prepared absent opens) tells =
      absurd (out (inl (absent, zeros)))
  refused_out i password keytab before after told out_before out_after size status r out (goes_not_on a m begun prepared there on) tells =
      absurd (out (inr (there, begun)))

  outcome_out : (before : ExchangeRecord) (call : FirstCall) (after : ExchangeRecord) (outcome : Result Followed Refusal)
      → IsFirstOutcome t tickets parts call.inputs call.password call.keytab before outcome
      → Tells outcome before after call.answered.told call.answered.out_before call.answered.out_after call.answered.size call.answered.status
      → (IsFirstTurn before call.inputs.message → ⊥) → (call.answered.status ≡ 42) × (call.answered.told ≡ broken 1 0) × (after ≡ before)
  outcome_out before call after (Ok f) is tells out = absurd (out (in_turn call.inputs call.password call.keytab before f is))
  outcome_out before call after (Err r) is tells out =
      refused_out call.inputs call.password call.keytab before after call.answered.told call.answered.out_before call.answered.out_after call.answered.size
      call.answered.status r out is tells

  pub out_of_turn : (before : ExchangeRecord) (call : FirstCall) (after : ExchangeRecord) → IsFirstCall tickets parts t before call after
      → (IsFirstTurn before call.inputs.message → ⊥) → (call.answered.status ≡ 42) × (call.answered.told ≡ broken 1 0) × (after ≡ before)
  out_of_turn before call after h out = outcome_out before call after h.outcome h.is_outcome h.tells out

  follows_begun : (i : Inputs) (password keytab : List ℕ) (before : ExchangeRecord) (f : Followed) → FollowsFirst t tickets parts i password keytab before f
      → HasBegun f.exchange
  follows_begun i password keytab before f (begins a m zeros prepared absent opens) =
      let e = opens.is_beginning.exchange in
      subst (λ (x : ExchangeRecord). HasBegun x) (sym opens.is_beginning.kept) (written_begun e.offset e.asked.nonce e.key)
  follows_begun i password keytab before f (goes_on a m begun prepared there on) =
      let e = on.is_answered.is_next.after in
      subst (λ (x : ExchangeRecord). HasBegun x) (sym on.is_answered.is_next.kept) (written_begun e.offset e.asked.nonce e.key)

  outcome_begun : (before : ExchangeRecord) (call : FirstCall) (after : ExchangeRecord) (outcome : Result Followed Refusal)
      → IsFirstOutcome t tickets parts call.inputs call.password call.keytab before outcome
      → Tells outcome before after call.answered.told call.answered.out_before call.answered.out_after call.answered.size call.answered.status
      → call.answered.status ≡ 0 → HasBegun after
  outcome_begun before call after (Ok f) is tells done =
      done_begun before after call.answered f (follows_begun call.inputs call.password call.keytab before f is) tells done
  outcome_begun before call after (Err r) is tells done = refused_begun before after call.answered r tells done

  pub has_begun : (before : ExchangeRecord) (call : FirstCall) (after : ExchangeRecord) → IsFirstCall tickets parts t before call after
      → call.answered.status ≡ 0 → HasBegun after
  has_begun before call after h done = outcome_begun before call after h.outcome h.is_outcome h.tells done
