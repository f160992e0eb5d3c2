-- No public clause cites this file. Which images a stack holds.
use Rattle.std.specs.Prelude.{◌≡◌, List, [], ◌∷◌, ◌++◌, Option, None, Some}
use Rattle.level_book.specs.NestedClass.{Image}
use Rattle.class_rules.specs.declared.stack.Held.{Held}
use Rattle.class_rules.specs.declared.stack.Stack.{Stack}

abbrev pub image_of : Held → Image
image_of h = record { position = h.position; level = h.level }

-- the newest is last in the vector, and first in the list of images
abbrev pub held_images : List Held → List Image
held_images [] = []
held_images (h ∷ later) = held_images later ++ image_of h ∷ []

abbrev pub on_top : List Image → Option Held → List Image
on_top older None = []
on_top older (Some h) = image_of h ∷ older

abbrev pub images_of : Stack → List Image
images_of s = on_top (held_images s.older.items) s.newest

abbrev pub IsStack : Stack → Type 0
IsStack s = s.newest ≡ None → s.older.items ≡ []
