-- The worked examples, computed one by one.
use Rattle.std.proofs.Common.{refl}
use Rattle.model.specs.Examples.{Shows, ExamplesHold, bare_book, first_directory, its_book, made_again, within_by_path, within_by_start, first_file, found_there, no_start, moved_inside, moved_onto, pruned_one, given_again, slash_before, slash_after, slash_twice, too_long, longest, unlinked_one, pruned_deep, size_first, book_by_names}

bare_book_shown : Shows bare_book
bare_book_shown = (refl, tt)

first_directory_shown : Shows first_directory
first_directory_shown = (refl, (refl, tt))

its_book_shown : Shows its_book
its_book_shown = (refl, tt)

made_again_shown : Shows made_again
made_again_shown = (refl, tt)

within_by_path_shown : Shows within_by_path
within_by_path_shown = (refl, (refl, tt))

within_by_start_shown : Shows within_by_start
within_by_start_shown = (refl, (refl, tt))

first_file_shown : Shows first_file
first_file_shown = (refl, (refl, tt))

found_there_shown : Shows found_there
found_there_shown = (refl, tt)

no_start_shown : Shows no_start
no_start_shown = (refl, tt)

moved_inside_shown : Shows moved_inside
moved_inside_shown = (refl, tt)

moved_onto_shown : Shows moved_onto
moved_onto_shown = (refl, tt)

pruned_one_shown : Shows pruned_one
pruned_one_shown = (refl, (refl, (refl, (refl, tt))))

given_again_shown : Shows given_again
given_again_shown = (refl, (refl, tt))

slash_before_shown : Shows slash_before
slash_before_shown = (refl, tt)

slash_after_shown : Shows slash_after
slash_after_shown = (refl, tt)

slash_twice_shown : Shows slash_twice
slash_twice_shown = (refl, tt)

too_long_shown : Shows too_long
too_long_shown = (refl, tt)

longest_shown : Shows longest
longest_shown = (refl, (refl, tt))

unlinked_one_shown : Shows unlinked_one
unlinked_one_shown = (refl, (refl, (refl, (refl, tt))))

pruned_deep_shown : Shows pruned_deep
pruned_deep_shown = (refl, (refl, (refl, tt)))

size_first_shown : Shows size_first
size_first_shown = (refl, tt)

book_by_names_shown : Shows book_by_names
book_by_names_shown = (refl, tt)

pub examples_hold : ExamplesHold
examples_hold = (bare_book_shown, (first_directory_shown, (its_book_shown, (made_again_shown, (within_by_path_shown, (within_by_start_shown, (first_file_shown, (found_there_shown, (no_start_shown, (moved_inside_shown, (moved_onto_shown, (pruned_one_shown, (given_again_shown, (slash_before_shown, (slash_after_shown, (slash_twice_shown, (too_long_shown, (longest_shown, (unlinked_one_shown, (pruned_deep_shown, (size_first_shown, (book_by_names_shown, tt))))))))))))))))))))))
