use Rattle.std.proofs.Common.{◌≡◌, refl, sym, inl, inr}
use Rattle.krb_c_calls.proofs.Buffers.{none_past, told_place}
use Rattle.krb_c_calls.proofs.frames.pac.pac_buffer.Goals as goal

pub returns-in-Some : goal.returns-in-Some
returns-in-Some c =
    let offset : c.offset.result ≡ c.in-Some.buffer.info.offset = cc in
    let size : c.cb_buffer_size.result ≡ c.in-Some.buffer.info.cb_buffer_size = cc in
    inl (
      c.in-Ok.view,
      c.in-Ok.ensures.found,
      inl (record {
        buffer = c.in-Some.buffer;
        there = sym c.in-Some.ensures;
        done = refl;
        kind = cc;
        before = offset;
        count = size;
        place = told_place c.args.pac.now c.in-Ok.view c.args.n c.offset.result c.cb_buffer_size.result c.in-Some.buffer c.in-Ok.ensures.found (sym c.in-Some.ensures) offset size;
      }),
    )

pub returns-in-None : goal.returns-in-None
returns-in-None c = inl (c.in-Ok.view, c.in-Ok.ensures.found, inr (none_past c.in-Ok.view c.args.n c.in-None.ensures, c.status-in-None.ensures.number, (refl, refl, refl)))
