-- `loss_words::runs::Runs::push` meets its contract: if the last run continues, its end is replaced (`push-on`);
-- otherwise three words are stored behind it (`push-new`), the first of them kind by kind.
use Rattle.std.proofs.Common.{◌≡◌, refl, sym, ◌∙◌, subst, false}
use Rattle.loss_words.specs.declared.runs.Kind.{Kind}
use Rattle.loss_words.specs.declared.runs.Kind.TheVariants.{Added, Ignored, Dropped}
use Rattle.loss_words.specs.Runs.{word_of}
use Rattle.loss_words.specs.Runs.Lent.{goes_on, push-on, push-new}
use Rattle.loss_words.proofs.KindWords.{by_kind}
use Rattle.loss_words.proofs.runs.Runs.push.Goals as goal

pub returns-then-goes_on : goal.returns-then-goes_on
returns-then-goes_on c =
    push-on _ _ _ _ _ refl (sym c.goes_on.ensures ∙ c.if-goes_on.true) refl refl

pub returns : goal.returns
returns c =
    let r = c.args.self.now in
    let ends : (k : Kind) → c.args.kind ≡ k → goes_on r.list.now r.len (word_of k) c.args.first ≡ false
    = λ k e. subst (λ (x : Kind). goes_on r.list.now r.len (word_of x) c.args.first ≡ false) e (sym c.goes_on.ensures ∙ c.if-goes_on.false) in
    by_kind c.args.kind
    (λ e. rw e (push-new _ _ _ _ _ refl (ends Added e) c.requires refl refl))
    (λ e. rw e (push-new _ _ _ _ _ refl (ends Ignored e) c.requires refl refl))
    (λ e. rw e (push-new _ _ _ _ _ refl (ends Dropped e) c.requires refl refl))
