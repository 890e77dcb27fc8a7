-- A kind's number in the code is its word in the list (`number_is`), and what holds kind by kind (`by_kind`).
use Rattle.std.proofs.Common.{◌≡◌, ◌+◌, refl}
use denote.Enum.Declared.{tag_of}
use Rattle.loss_words.specs.declared.runs.Kind.{Kind}
use Rattle.loss_words.specs.declared.runs.Kind.TheVariants.{Added, Ignored, Dropped}
use Rattle.loss_words.specs.contracts.runs.Kind.{the_type}
use Rattle.loss_words.specs.Runs.{word_of}

pub number_is : (k : Kind) → tag_of the_type k + 1 ≡ word_of k
number_is Added = refl
number_is Ignored = refl
number_is Dropped = refl

pub by_kind : {A : Type 0} (k : Kind) → (k ≡ Added → A) → (k ≡ Ignored → A) → (k ≡ Dropped → A) → A
by_kind Added a b c = a refl
by_kind Ignored a b c = b refl
by_kind Dropped a b c = c refl
