use Rattle.std.proofs.Common.{◌∙◌, ap, arith, drop}
use Rattle.krb_files.specs.FieldReading.{Principal}
use Rattle.krb_show_pages.proofs.KeytabParts.{key_read, key_there, numbers_dropped, numbers_there, parts_fit, principal_length, principal_read, principal_size, principal_there}
use Rattle.krb_show_pages.proofs.files.keytab_places.parts_of.Goals as goal

pub returns-in_default-clause-found : goal.returns-in_default-clause-found
returns-in_default-clause-found c = λ f rest fits e. principal_there c.args.body.now f rest c.in_default.field-0 fits e c.in_default.ensures

pub returns-then-numbers-lt-NUMBERS-clause-found : goal.returns-then-numbers-lt-NUMBERS-clause-found
returns-then-numbers-lt-NUMBERS-clause-found c = λ f rest fits e.
    let read = principal_read c.args.body.now f rest c.in-Ok.principal c.in-Ok.numbers.now fits e c.in-Ok.ensures in
    numbers_there f rest c.in-Ok.numbers.now read.1 c.if-numbers-lt-NUMBERS.true

pub returns-in_default-counted_at-clause-found : goal.returns-in_default-counted_at-clause-found
returns-in_default-counted_at-clause-found c = λ f rest fits e.
    let read = principal_read c.args.body.now f rest c.in-Ok.principal c.in-Ok.numbers.now fits e c.in-Ok.ensures in
    key_there (drop 11 c.in-Ok.numbers.now) f.key rest c.in_default-counted_at.field-0 fits.1.1.1.1.1 (ap (drop 11) read.1 ∙ numbers_dropped f rest)
    (rw c.split_at.ensures.back at c.in_default-counted_at.ensures)

pub overflow_sub-result : goal.overflow_sub-result
overflow_sub-result c =
    omega (arith, principal_length c.args.body.now c.in-Ok.principal c.in-Ok.numbers.now (λ i. omega (arith, c.type_inv.body i)) c.in-Ok.ensures)

pub returns-clause-found : goal.returns-clause-found
returns-clause-found c = λ f rest fits e.
    let read = principal_read c.args.body.now f rest c.in-Ok.principal c.in-Ok.numbers.now fits e c.in-Ok.ensures in
    let key = key_read (drop 11 c.in-Ok.numbers.now) f.key rest c.in-Ok-counted_at.key.now c.in-Ok-counted_at.rest.now fits.1.1.1.1.1
    (ap (drop 11) read.1 ∙ numbers_dropped f rest) (rw c.split_at.ensures.back at c.in-Ok-counted_at.ensures) in
    record {
      size = principal_size f c.args.body.now rest c.in-Ok.numbers.now e read.1;
      realm = c.realm.ensures ∙ ap (λ (p : Principal). p.realm) read.0;
      components = c.components.ensures ∙ ap (λ (p : Principal). p.components) read.0;
      key = key.0;
      rest = key.1;
    }

pub returns-clause-fits : goal.returns-clause-fits
returns-clause-fits c =
    let fit = parts_fit c.args.body.now c.in-Ok.principal c.in-Ok.numbers.now c.in-Ok-counted_at.key.now c.in-Ok-counted_at.rest.now
    (λ i. omega (arith, c.type_inv.body i)) c.in-Ok.ensures c.if-numbers-lt-NUMBERS.false (rw c.split_at.ensures.back at c.in-Ok-counted_at.ensures) in
    record { all = fit.0; principal = rw (c.realm.ensures, c.components.ensures) fit.1 }
