use Rattle.std.proofs.Common.{refl, inl}
use Rattle.krb_c_calls.proofs.FramedTokens.{inner_stands, mechanism_stands, token_size}
use Rattle.krb_c_calls.proofs.frames.token.gss_token.Goals as goal

pub place_before-place-requires : goal.place_before-place-requires
place_before-place-requires c = token_size c.args.token.now c.in-Ok.mechanism.now c.in-Ok.inner.now c.in-Ok.ensures.found

pub returns-in-Ok : goal.returns-in-Ok
returns-in-Ok c =
    let t = c.in-Ok.ensures.found in
    let m = c.place_before-place.ensures in
    let i = c.place_before-place-in-Ok.ensures in
    inl (
      c.in-Ok.mechanism.now,
      c.in-Ok.inner.now,
      t,
      refl,
      mechanism_stands c.args.token.now c.in-Ok.mechanism.now c.in-Ok.inner.now c.place_before-place.result.offset c.place_before-place.result.size t m.offset m.size,
      inner_stands c.args.token.now c.in-Ok.mechanism.now c.in-Ok.inner.now c.place_before-place-in-Ok.result.offset c.place_before-place-in-Ok.result.size t i.offset i.size,
    )
