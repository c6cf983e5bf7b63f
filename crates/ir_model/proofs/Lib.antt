mod FirstPlaces
