use Rattle.std.proofs.Common.{◌≡◌, ◌+◌, ◌-◌, length, sym, refl, ap, ◌∙◌, arith, rules}
use borrow.Rule.Slice.PartMut.{put_mid}
use Rattle.play.specs.Lines.{text_of}
use Rattle.play.proofs.Paged.{page_more}
use Rattle.play.proofs.page.Page.print.Goals as goal

pub returns : goal.returns
returns c lent earlier pg =
    let p = c.args.self.now in
    let n = c.len-size.result in
    let same : p.used + n - p.used ≡ n = omega arith in
    let text : c.copy_from_slice.new.self ≡ text_of c.args.line = c.copy_from_slice.ensures.after ∙ c.as_bytes.ensures.value ∙ c.deref.ensures.0 ∙ c.text-text.ensures in
    let size : n ≡ length c.copy_from_slice.new.self = c.len-size.ensures.value ∙ ap length c.text-text.ensures ∙ ap length (sym text) in
    page_more lent earlier p _ c.args.line c.copy_from_slice.new.self n text size refl refl (search rules) (omega (arith, p.inside)) refl
    (ap (λ k. put_mid p.used k p.out.now c.copy_from_slice.new.self) same) pg
