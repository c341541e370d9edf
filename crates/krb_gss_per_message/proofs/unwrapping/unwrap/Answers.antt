use Rattle.std.proofs.Common.{◌≡◌, Bool, ap, subst, sym}
use Rattle.std.proofs.lemmas.Result.{err_from_is_err_and}
use Rattle.krb_gss_per_message.specs.Errors.{of_token}
use Rattle.krb_gss_per_message.specs.Keys.{AreFlagsOf}
use Rattle.krb_gss_per_message.specs.Unwrap.{Holds}
use Rattle.krb_gss_per_message.proofs.FlagBits.{sealed_once}
use Rattle.krb_gss_per_message.proofs.Rotations.{unrotated}
use Rattle.krb_gss_per_message.proofs.Wraps.{held_by, data_refused, flags_refused, token_read, wrap_read}
use Rattle.krb_gss_per_message.proofs.unwrapping.unwrap.Goals as goal

pub returns-in_err-flags-clause-only : goal.returns-in_err-flags-clause-only
returns-in_err-flags-clause-only c =
    let p = err_from_is_err_and c.from_residual.result c.from_residual.ensures.1 in
    λ sealed number message held. rw (p.1, p.2) (ap of_token (wrap_read c.args.key.now c.args.token.now sealed number message _ c.in_err-flags.ensures.only held))

pub returns-in_err-check_flags-clause-refused : goal.returns-in_err-check_flags-clause-refused
returns-in_err-check_flags-clause-refused c =
    let p = err_from_is_err_and c.from_residual-in_err-check_flags.result c.from_residual-in_err-check_flags.ensures.1 in
    let octets = unrotated c.flags.inside.rrc c.flags.inside.checksum.items in
    let is = token_read c.args.token.now _ c.in_ok-flags.field-0 octets.0 c.in_ok-flags.ensures.found c.in_ok-flags.ensures.fits c.flags.view_is octets.1 in
    rw (p.1, p.2) (flags_refused c.args.key.now c.args.token.now _ _ _ _ _ _ is c.in_err-check_flags.ensures.refused)

pub returns-in_err-message-clause-refused : goal.returns-in_err-message-clause-refused
returns-in_err-message-clause-refused c =
    let p = err_from_is_err_and c.from_residual-in_err-message.result c.from_residual-in_err-message.ensures.1 in
    let is = token_read c.args.token.now _ c.in_ok-flags.field-0 c.rotate_back.new.octets.items c.in_ok-flags.ensures.found c.in_ok-flags.ensures.fits c.flags.view_is c.rotate_back.ensures in
    let are : AreFlagsOf c.args.key.now c.is_sealed-sealed.result c.flags.inside.flags =
    record { sender = c.in_ok-check_flags.ensures.sender; sealed_is = c.is_sealed-sealed.ensures; subkey = c.in_ok-check_flags.ensures.subkey } in
    rw (p.1, p.2) (data_refused c.args.key.now c.args.token.now _ _ _ _ _ _ _ is are c.in_err-message.ensures.refused)

pub returns-in_err-message-clause-only : goal.returns-in_err-message-clause-only
returns-in_err-message-clause-only c = λ sealed number message held.
    let p = err_from_is_err_and c.from_residual-in_err-message.result c.from_residual-in_err-message.ensures.1 in
    let is = token_read c.args.token.now _ c.in_ok-flags.field-0 c.rotate_back.new.octets.items c.in_ok-flags.ensures.found c.in_ok-flags.ensures.fits c.flags.view_is c.rotate_back.ensures in
    let by = held_by c.args.key.now c.args.token.now _ _ _ _ _ sealed number message is held in
    let are : AreFlagsOf c.args.key.now c.is_sealed-sealed.result c.flags.inside.flags =
    record { sender = c.in_ok-check_flags.ensures.sender; sealed_is = c.is_sealed-sealed.ensures; subkey = c.in_ok-check_flags.ensures.subkey } in
    let mark : sealed ≡ c.is_sealed-sealed.result = sealed_once c.args.key.now sealed c.is_sealed-sealed.result c.flags.inside.flags by.flags_are are in
    let holds = subst (λ (b : Bool). Holds b c.args.key.now c.flags.inside.flags c.flags.inside.ec c.flags.inside.seq_num c.rotate_back.new.octets.items message) mark by.holds in
    rw (p.1, p.2) (c.in_err-message.ensures.only message holds)

pub returns-clause-only : goal.returns-clause-only
returns-clause-only c = λ sealed number message held.
    let is = token_read c.args.token.now _ c.in_ok-flags.field-0 c.rotate_back.new.octets.items c.in_ok-flags.ensures.found c.in_ok-flags.ensures.fits c.flags.view_is c.rotate_back.ensures in
    let by = held_by c.args.key.now c.args.token.now _ _ _ _ _ sealed number message is held in
    let are : AreFlagsOf c.args.key.now c.is_sealed-sealed.result c.flags.inside.flags =
    record { sender = c.in_ok-check_flags.ensures.sender; sealed_is = c.is_sealed-sealed.ensures; subkey = c.in_ok-check_flags.ensures.subkey } in
    let mark : sealed ≡ c.is_sealed-sealed.result = sealed_once c.args.key.now sealed c.is_sealed-sealed.result c.flags.inside.flags by.flags_are are in
    let holds = subst (λ (b : Bool). Holds b c.args.key.now c.flags.inside.flags c.flags.inside.ec c.flags.inside.seq_num c.rotate_back.new.octets.items message) mark by.holds in
    (sym mark, by.number_is, c.in_ok-message.ensures.only message holds)
