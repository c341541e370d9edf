use Rattle.std.proofs.Common.{◌≡◌, ◌≢◌, inr, sym, subst, ◌∙◌, List, OnOk}
use Rattle.krb_pac.specs.Numbered.{NumberedBuffer}
use Rattle.krb_show_messages.specs.Pac.{directory_of, plain_octets}
use Rattle.std.proofs.lemmas.Result.{on_ok_weaker}
use Rattle.krb_show_messages.proofs.pac.show_directory.Goals as goal

pub returns-clause-ok : goal.returns-clause-ok
returns-clause-ok c =
    let among : c.deref.result.now ≡ c.deref-else-is_plain.result.now = c.deref.ensures.value ∙ sym c.deref-else-is_plain.ensures.value in
    let other : c.args.octets.now ≢ plain_octets c.deref-else-is_plain.result.now =
    subst (λ (p : List NumberedBuffer). c.args.octets.now ≢ plain_octets p) among c.if-is_plain.ensures in
    let same : c.deref-else-is_plain.result.now ≡ c.args.pac.now = c.deref-else-is_plain.ensures.value ∙ c.in_ok-buffers.ensures in
    subst (λ (p : List NumberedBuffer). OnOk c.show_other.result (directory_of c.args.label.now c.args.octets.now p c.args.page.now.items
    c.show_other.new.page.items)) same (on_ok_weaker c.show_other.result (λ shown. inr (other, shown)) c.show_other.ensures.ok)
