-- A stack with an image more, and with one less.
use Rattle.std.proofs.Common.{◌≡◌, List, [], ◌∷◌, ◌++◌, length, refl, sym, ap, ◌∙◌, arith, length-append, Option, Some, None}
use Rattle.std.specs.Option.{option_to_list}
use Rattle.level_book.specs.NestedClass.{Image, older_than_newest}
use Rattle.class_rules.specs.declared.stack.Held.{Held}
use Rattle.class_rules.specs.Stacks.{image_of, held_images, on_top}

pub pushed : (xs : List Held) (h : Held) → held_images (xs ++ h ∷ []) ≡ image_of h ∷ held_images xs
pushed [] h = refl
pushed (x ∷ xs) h = ap (λ (images : List Image). images ++ image_of x ∷ []) (pushed xs h)

none_left : (xs : List Held) → length xs ≡ 0 → xs ≡ []
none_left [] e = refl
none_left (x ∷ xs) e = absurd (omega arith)

pub popped : (old new : List Held) (result newest : Option Held) → (newest ≡ None → old ≡ []) → old ≡ new ++ option_to_list result → (result ≡ None → length old ≡ 0) →
    on_top (held_images new) result ≡ older_than_newest (on_top (held_images old) newest)
popped old new (Some x) (Some y) is e none = sym (ap held_images e ∙ pushed new x)
popped old new (Some x) None is e none = absurd (let gone = sym (is refl) ∙ e in omega (arith, ap length gone, length-append new (x ∷ [])))
popped old new None (Some y) is e none = sym (ap held_images (none_left old (none refl)))
popped old new None None is e none = refl
